use Rattle.showing.proofs.Attempts.{second_shown, third_shown}
use Rattle.showing.proofs.showing.show.Goals as goal

pub returns-in-Some-show_with : goal.returns-in-Some-show_with
returns-in-Some-show_with c = second_shown c.args.journal.now c.args.out.now c.show_with.new.out c.show_with-2.new.out c.in-Some-show_with.shown c.in_default.ensures c.in-Some-show_with.ensures

pub returns-in-Some-show_with-2 : goal.returns-in-Some-show_with-2
returns-in-Some-show_with-2 c =
    third_shown c.args.journal.now c.args.out.now c.show_with.new.out c.show_with-3.new.out c.in-Some-show_with-2.shown c.show_with-2.new.out c.in_default.ensures c.in_default-show_with.ensures c.in-Some-show_with-2.ensures
