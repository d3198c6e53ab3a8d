-- What a step may rely on.
use Rattle.std.specs.Prelude.{◌≡◌, ℕ, ◌<◌, ◌≤◌, length, unsigned_abs}
use Rattle.hub_cards.specs.Tables.{at}
use Rattle.hub_runs.specs.Hubs.{Size, State, blank_client}
use Rattle.hub_steps.specs.Applied.{HasRoom}

-- What a step may rely on where the tables fit.
pub record Fitting (size : Size) (s : State) : Type 0 where
  pub commands : length s.clients ≡ size.client_num
  pub masters : length s.master ≡ size.max_instance
  pub master_registers : length s.master_figures ≡ size.max_instance
  pub backups : length s.backup ≡ size.max_instance
  pub backup_registers : length s.backup_figures ≡ size.max_instance
  pub room : s.steps < 4294967295
  pub limited : (c : ℕ) → unsigned_abs (at blank_client s.clients c).hundredths ≤ 9000
  pub versions : HasRoom s.master s.backup
