use Rattle.std.proofs.Common.{true, ◌≡◌, ℕ, List, sym, ap, ◌∙◌, Bor}
use Rattle.hub_runs.specs.States.{held, lent}
use Rattle.journal.specs.declared.kinds.Accepted.TheVariants.{Only}
use Rattle.replay.specs.Replayed.{are_full}
use Rattle.replay.specs.Told.{Told}
use Rattle.replay.proofs.Placed.{replays_read, slices_fit}
use Rattle.replay.proofs.replaying.replay.Goals as goal

pub returns-clause-replays : goal.returns-clause-replays
returns-clause-replays g c =
    let kind = g.R.Register in
    let args = c.args in
    let head = c.in_ok-header.ensures in
    let read = head.read in
    let t : Told = read.0 in
    let last = c.replay_on.new in
    let new = c.new-reader.ensures in
    let full : are_full (held args.tables.now) ≡ true = ap are_full (sym c.view.ensures) ∙ sym c.if-not-are_full.ensures in
    let before = held args.tables.now in
    let small = lent last.commands last.masters last.master_registers last.backups last.backup_registers in
    let fitted = slices_fit before c.in_ok-header.header t full read.1 in
    let text_of = λ (r : Bor (List ℕ)). r.now in
    replays_read kind.figures kind.start kind.rule (Only kind.kind) c.new-reader.result.accepts c.read.new.reader.accepts args.journal.now c.new-reader.result.text.now c.read.new.reader.text.now c.read.new.reader.place t before small c.in_ok-header.header.counts.commands c.in_ok-header.header.counts.cards c.replay_on.result
    (new.1.1.1 ∙ ap Only c.kind.ensures) (ap text_of new.0) head.same.1 (ap text_of head.same.0) full
    (c.replay_on.auto.commands ∙ fitted.commands ∙ sym read.1.commands) (c.replay_on.auto.masters ∙ fitted.masters ∙ sym read.1.cards)
    read.4 (c.replay_on.ensures t read.1 read.2 fitted read.3)
