-- The keys of a journal's lines, and which of them is due.
use Rattle.std.specs.Prelude.{ℕ, ◌+◌, Bool, true, false, cond, List, codes, ◌==◌, nat_le}
use Rattle.journal.specs.declared.keys.Key.{Key}
use Rattle.journal.specs.declared.keys.Key.TheVariants.{Commands, Kills, Cards, Register, Move, Step}

-- What a line begins with: its key and the equals sign.
abbrev pub front_of : Key → List ℕ
front_of Commands = codes "commands="
front_of Kills = codes "kills="
front_of Cards = codes "cards="
front_of Register = codes "register="
front_of Move = codes "move="
front_of Step = codes "step="

-- The key that is due on a line, counted from 1, of a journal of so many commands:
-- four lines of header, one move for each command, and then steps.
abbrev pub due_key : ℕ → ℕ → Key
due_key line commands = cond (line == 1) Commands (cond (line == 2) Kills (cond (line == 3) Cards (cond (line == 4) Register (cond (nat_le line (4 + commands)) Move Step))))

-- Only where a step is due may a journal end.
abbrev pub may_end : Key → Bool
may_end Commands = false
may_end Kills = false
may_end Cards = false
may_end Register = false
may_end Move = false
may_end Step = true
