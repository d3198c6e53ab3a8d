-- A hub that was just made is fine.
use Rattle.std.proofs.Common.{◌≡◌, ℕ, zero, suc, ◌+◌, ◌*◌, ◌<◌, ◌≤◌, false, ◌≢◌, List, [], ◌∷◌, map, length, replicate, ℤ, pos, refl, ap, ◌∙◌, suc-mul, zero-mul, arith}
use Rattle.std.proofs.lemmas.List.{length-map, get_or-map}
use Rattle.std.proofs.lemmas.List.Sums.{sum_by-cons}
use Rattle.hub_records.specs.Commands.{the_backup, the_master}
use Rattle.hub_cards.specs.Tables.{at}
use Rattle.hub_records.specs.declared.commands.Phase.TheVariants.{GaveUp}
use Rattle.hub_runs.specs.Hubs.{Size, blank_client, all_done}
use Rattle.hub_runs.specs.Promises.{times}
use Rattle.hub_runs.specs.Runs.{Limits, fresh, made, begun}
use Rattle.hub_runs.proofs.Rows.{Cards}
use Rattle.hub_runs.proofs.Clients.{RowAt, total, weight_of}
use Rattle.hub_runs.proofs.Roles.{of_backup, of_master, first_role}
use Rattle.hub_runs.proofs.Tidy.{tidy_first}
use Rattle.hub_runs.proofs.Places.{all_blank}
use Rattle.hub_runs.proofs.Made.{each_fresh}
use Rattle.hub_runs.proofs.Fine.{Fine}

-- No losses, and card 1 of each role is active.
abbrev at_first : ℕ → Cards
at_first k = record { lm = 0; ma = 1; lb = 0; ba = 1; k = k }

fresh_row : (k mc bc : ℕ) → mc ≡ 0 → bc ≡ 0 → (moves : List ℤ) (c : ℕ) → 1 ≤ c → c ≤ length (map fresh moves) → RowAt (at_first k) mc bc (at blank_client (map fresh moves) c)
fresh_row k mc bc no_master no_backup moves zero low high = absurd (omega arith)
fresh_row k mc bc no_master no_backup moves (suc n) low high =
    let there : n < length moves = omega (arith, length-map moves fresh) in
    rw (get_or-map fresh moves n (pos 0) blank_client there)
    (record { row = no_master; known = record { some_own = omega arith; own_master = omega arith; own_backup = omega arith; once = omega arith; contained = omega arith } })

fresh_weight : (k : ℕ) (moves : List ℤ) → total (at_first k) (map fresh moves) ≡ 5 * (length moves * (k + 1))
fresh_weight k [] = omega (arith, zero-mul (k + 1))
fresh_weight k (z ∷ moves) = omega (arith, fresh_weight k moves, suc-mul (length moves) (k + 1), sum_by-cons (weight_of (at_first k)) (fresh z) (map fresh moves))

none_done : (moves : List ℤ) → 1 ≤ length moves → all_done (map fresh moves) ≡ false
unfolding all_done
none_done [] some = absurd (omega arith)
none_done (z ∷ moves) some = refl

nothing_taken : (s c : ℕ) → times c (at [] (replicate s []) 1) ≡ 0
unfolding times
nothing_taken s c = ap (times c) (all_blank {A = List ℕ} [] s 1)

pub begun_fine : (size : Size) (start moves : List ℤ) → Limits size moves → Fine size (made size start moves) (begun size start moves).lists
begun_fine size start moves limits = record {
  a = at_first size.max_kill;
  cards = record {
    limit = refl;
    few = omega arith;
    killed = refl;
    masters = first_role of_backup (the_backup 1) (the_backup 0) size.max_instance limits.some_instances;
    backups = first_role of_master (the_master 1) (the_master 0) size.max_instance limits.some_instances;
  };
  lists = record { masters = tidy_first size.client_num size.max_instance; backups = tidy_first size.client_num size.max_instance };
  commands = length-map moves fresh ∙ limits.one_move_each;
  rows = λ c. fresh_row size.max_kill _ _ (nothing_taken size.max_instance c) (nothing_taken size.max_instance c) moves c;
  weighs = omega (arith, fresh_weight size.max_kill moves, ap (λ n. n * (size.max_kill + 1)) limits.one_move_each);
  exec = record {
    running = λ _. (each_fresh (λ _ x. x.phase ≢ GaveUp) moves (λ h. cc) (λ _ h. cc), none_done moves (omega (arith, limits.some_clients, limits.one_move_each)));
    success = λ h. cc;
    fatal = λ h. cc;
  };
}
