-- The worked runs, and those with a shortcut, compute.
use Rattle.std.proofs.Common.{refl}
use Rattle.std.specs.Int.{int_wrap}
use Rattle.registers.specs.Mean.{mean_of_sum}
use Rattle.hub_tables.specs.Search.{first, last}
use Rattle.hub_runs.specs.Hubs.{all_done}
use Rattle.hub_runs.specs.Judging.{guard, with_card, by_card, carried_out, judged, by_letter, step}
use Rattle.hub_runs.specs.Runs.{lists_after, lists_by_letter, after_answer, after, run_of}
use Rattle.hub_runs.specs.Shortcuts.{ShortcutsMiscount}
use Rattle.hub_runs.specs.WorkedRuns.{WorkedRuns}

computed : WorkedRuns × ShortcutsMiscount
unfolding int_wrap mean_of_sum first last all_done guard with_card by_card carried_out judged by_letter step lists_after lists_by_letter after_answer after run_of
computed = (
  (
    ((refl, refl, refl), refl),
    ((refl, refl, refl), refl, refl, refl, refl, refl, refl),
    ((refl, refl, refl), refl),
    (refl, refl),
    (refl, refl, refl),
    (refl, refl, refl, refl),
    refl,
    refl,
    (refl, refl, refl, refl, refl, refl),
  ),
  ((refl, refl, refl, refl, refl), (refl, refl), (refl, refl)),
)

pub worked_runs : WorkedRuns
worked_runs = computed.0

pub shortcuts_miscount : ShortcutsMiscount
shortcuts_miscount = computed.1
