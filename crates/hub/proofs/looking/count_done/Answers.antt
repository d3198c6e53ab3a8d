-- The commands that pass the filter are as many as the model counts.
use Rattle.std.proofs.Common.{◌∙◌, rules}
use Rattle.std.proofs.lemmas.Iterator.{YieldsList-from_slice}
use Rattle.std.proofs.lemmas.Iterator.Consumers.{count_from_yields_List, YieldsList-from_filter}
use Rattle.hub_records.specs.Commands.{is_done}
use Rattle.hub.proofs.Looked.{done_counted}
use Rattle.hub.proofs.looking.count_done.Goals as goal
use borrow.Author.Tests.{tests}

pub returns : goal.returns
returns c =
    count_from_yields_List _ _ c.count.ensures.ran (YieldsList-from_filter _ (λ command. is_done command.phase) (YieldsList-from_slice c.args.commands.now cc) c.filter.ensures.closure (λ x b q k. search (rules, tests)))
    ∙ done_counted c.args.commands.now
