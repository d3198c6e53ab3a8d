-- The laws hold for the cards of both roles.
use Rattle.hub_tables.proofs.Searches.{searches_lawful}
use Rattle.hub_tables.proofs.search.searches_keep_their_laws.Goals as goal

pub returns-clause-stated : goal.returns-clause-stated
returns-clause-stated c = (searches_lawful _, searches_lawful _)
