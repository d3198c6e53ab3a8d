-- What was seen of a hub, beside the tables in which it was seen.
use Rattle.std.specs.Prelude.{ℕ, ◌≤◌, List, [], map, length, ℤ}
use Rattle.hub_cards.specs.Tables.{at}
use Rattle.hub_records.specs.declared.look.Look.{Look}
use Rattle.hub_tables.specs.declared.tables.View.{View}
use Rattle.hub_report.specs.ReportText.{look_text}

-- There is a register for the last card of each role.
abbrev pub HasRegisters : {R : Type 0} → Look → View R → Type 0
HasRegisters seen tables = (seen.master.0 ≤ length tables.master_registers.now) × (seen.backup.0 ≤ length tables.backup_registers.now)

-- Its text.
abbrev pub text_seen : {R : Type 0} → ℕ → (R → List ℤ) → Look → View R → List ℕ
text_seen code figures seen tables = look_text code seen (at [] (map figures tables.master_registers.now) seen.master.0) (at [] (map figures tables.backup_registers.now) seen.backup.0)
