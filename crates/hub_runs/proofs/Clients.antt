-- All commands of a hub: each in its row, and their weights together.
use Rattle.std.proofs.Common.{◌≡◌, ℕ, zero, suc, ◌+◌, ◌≤◌, ◌≢◌, List, [], ◌∷◌, length, Some, None, Option, refl, arith}
use Rattle.std.specs.List.{sum_by}
use Rattle.std.proofs.lemmas.List.Sums.{sum_by-cons, sum_by-set}
use Rattle.hub_cards.specs.Tables.{at, put}
use Rattle.hub_records.specs.declared.commands.Command.{Command}
use Rattle.hub_records.specs.declared.commands.Message.{Message}
use Rattle.hub_records.specs.declared.commands.Phase.{Phase}
use Rattle.hub_records.specs.declared.commands.Phase.TheVariants.{Working}
use Rattle.hub_runs.specs.Hubs.{blank_client}
use Rattle.hub_runs.specs.Promises.{times}
use Rattle.hub_runs.specs.Runs.{Lists}
use Rattle.hub_runs.proofs.Rows.{Cards, Row, Known, weight}

-- How often the lists of the last master and the last backup hold a command.
abbrev pub in_master : Cards → Lists → ℕ → ℕ
in_master a l c = times c (at [] l.of_master (a.lm + a.ma))

abbrev pub in_backup : Cards → Lists → ℕ → ℕ
in_backup a l c = times c (at [] l.of_backup (a.lb + a.ba))

pub record RowAt (a : Cards) (mc bc : ℕ) (x : Command) : Type 0 where
  pub row : Row a x.phase x.message x.own_master.0 x.own_backup.0 mc bc
  pub known : Known a x.own_master.0 x.own_backup.0 mc bc

abbrev pub Rows : Cards → Lists → List Command → Type 0
Rows a l xs = (c : ℕ) → 1 ≤ c → c ≤ length xs → RowAt a (in_master a l c) (in_backup a l c) (at blank_client xs c)

abbrev pub weight_of : Cards → Command → ℕ
weight_of a x = weight a x.phase x.message x.own_master.0

abbrev pub total : Cards → List Command → ℕ
total a xs = sum_by (weight_of a) xs

pub total_put : (a : Cards) (xs : List Command) (c : ℕ) (y : Command) → 1 ≤ c → c ≤ length xs → total a (put xs c y) + weight_of a (at blank_client xs c) ≡ total a xs + weight_of a y
total_put a xs zero y low high = absurd (omega arith)
total_put a xs (suc n) y low high = sum_by-set (weight_of a) xs n y blank_client (omega arith)

-- Where no command is heavier, neither are all of them.
pub total_falls : (a a' : Cards) (xs : List Command) → ((c : ℕ) → 1 ≤ c → c ≤ length xs → weight_of a' (at blank_client xs c) ≤ weight_of a (at blank_client xs c)) → total a' xs ≤ total a xs
total_falls a a' [] each = omega arith
total_falls a a' (x ∷ xs) each = omega (arith, each 1 (omega arith) (omega arith), total_falls a a' xs (later xs each), sum_by-cons (weight_of a) x xs, sum_by-cons (weight_of a') x xs)
  where
    later : (xs : List Command) → ((c : ℕ) → 1 ≤ c → c ≤ length (x ∷ xs) → weight_of a' (at blank_client (x ∷ xs) c) ≤ weight_of a (at blank_client (x ∷ xs) c)) → (c : ℕ) → 1 ≤ c → c ≤ length xs → weight_of a' (at blank_client xs c) ≤ weight_of a (at blank_client xs c)
    later xs each zero low high = absurd (omega arith)
    later xs each (suc n) low high = each (suc (suc n)) (omega arith) (omega arith)

-- A client that holds a message is working.
pub row_working : (a : Cards) (phase : Phase) (msg : Option Message) (held : Message) (om ob mc bc : ℕ) → msg ≡ Some held → Row a phase msg om ob mc bc → Row a Working (Some held) om ob mc bc × (weight a phase msg om ≡ weight a Working (Some held) om)
row_working a phase msg held om ob mc bc e r = rw e (by_phase phase (rw e at r))
  where
    by_phase : (p : Phase) → Row a p (Some held) om ob mc bc → Row a Working (Some held) om ob mc bc × (weight a p (Some held) om ≡ weight a Working (Some held) om)
    by_phase Working r = (r, refl)
    by_phase _ r = absurd r

-- One that is not working holds none.
pub row_resting : (a : Cards) (phase : Phase) (msg : Option Message) (p : Phase) (om ob mc bc : ℕ) → phase ≡ p → p ≢ Working → Row a phase msg om ob mc bc → Row a p None om ob mc bc × (weight a phase msg om ≡ weight a p None om)
row_resting a phase msg p om ob mc bc e rests r = rw e (by_message p msg rests (rw e at r))
  where
    by_message : (p : Phase) (m : Option Message) → p ≢ Working → Row a p m om ob mc bc → Row a p None om ob mc bc × (weight a p m om ≡ weight a p None om)
    by_message p None rests r = (r, refl)
    by_message Working (Some held) rests r = absurd (rests refl)
    by_message _ (Some held) rests r = absurd r
