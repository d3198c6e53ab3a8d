-- A step of one command: it comes to its next row, and all else stays fine. And a step of the cards alone.
use Rattle.std.proofs.Common.{◌≡◌, ℕ, ◌+◌, ◌≤◌, ◌≢◌, length, sym, ap, ◌∙◌, ⊎_elim, arith}
use Rattle.std.proofs.lemmas.Bool.{cases_eq}
use Rattle.hub_cards.specs.Tables.{at, put}
use Rattle.hub_records.specs.declared.commands.Command.{Command}
use Rattle.hub_runs.specs.Hubs.{Size, State, blank_client, client}
use Rattle.hub_runs.specs.Runs.{Lists}
use Rattle.hub_runs.proofs.Rows.{Cards, Known, Changed, Copied, stays, known_stays}
use Rattle.hub_runs.proofs.Letters.{Comes}
use Rattle.hub_runs.proofs.Clients.{RowAt, in_master, in_backup, total_put, total_falls, weight_of}
use Rattle.hub_runs.proofs.Places.{at_put_same, at_put_other, length-put}
use Rattle.hub_runs.proofs.Fine.{Exec, Carded, Listed, cards_weight, Fine, sane}

-- Command c comes to y. The cards keep their numbers, and the last lists hold c so often as said, and the other commands as before.
pub moves_command : {size : Size} {s : State} {l : Lists} (fine : Fine size s l) (c : ℕ) → 1 ≤ c → c ≤ size.client_num
    → (s' : State) (l' : Lists) (y : Command) (mc bc : ℕ) → s'.clients ≡ put s.clients c y → s'.steps ≡ s.steps + 1
    → Carded size fine.a s'.master s'.backup s'.killed → Listed size l'
    → ((d : ℕ) → d ≢ c → (in_master fine.a l' d ≡ in_master fine.a l d) × (in_backup fine.a l' d ≡ in_backup fine.a l d))
    → in_master fine.a l' c ≡ mc → in_backup fine.a l' c ≡ bc
    → Comes fine.a y.phase y.message y.own_master.0 y.own_backup.0 mc bc (weight_of fine.a (client s c))
    → Exec s'.exec_state (put s.clients c y) → Fine size s' l'
moves_command {size} {s} {l} fine c low high s' l' y mc bc clients steps carded listed others in_m in_b comes exec =
    let a = fine.a in
    let inside : c ≤ length s.clients = omega (arith, fine.commands) in
    let long = length-put s.clients c y in
    let put_total = total_put a s.clients c y low inside in
    let lighter = comes.lighter in
    let rows : (d : ℕ) → 1 ≤ d → d ≤ length (put s.clients c y) → RowAt a (in_master a l' d) (in_backup a l' d) (at blank_client (put s.clients c y) d) =
    λ d some there. ⊎_elim
    (λ e. rw (← e, at_put_same blank_client y s.clients c low inside, in_m, in_b) (record { row = comes.row; known = comes.known }))
    (λ apart. let same = others d (λ e. apart (sym e)) in let old : d ≤ length s.clients = omega arith in rw (same.0, same.1, at_put_other blank_client y s.clients c d apart) (fine.rows d some old))
    (cases_eq c d) in
    record {
      a = a;
      cards = carded;
      lists = listed;
      commands = ap length clients ∙ long ∙ fine.commands;
      rows = rw clients rows;
      weighs = rw (steps, clients) (omega (arith, fine.weighs, put_total, lighter));
      exec = rw clients exec;
    }

-- All commands stay in their rows, and the weight of the cards falls.
pub moves_cards : {size : Size} {s : State} {l : Lists} (fine : Fine size s l) (s' : State) (l' : Lists) (a' : Cards)
    → s'.clients ≡ s.clients → s'.steps ≡ s.steps + 1 → s'.exec_state ≡ s.exec_state
    → Carded size a' s'.master s'.backup s'.killed → Listed size l' → Changed fine.a a'
    → ((c om ob : ℕ) → Known fine.a om ob (in_master fine.a l c) (in_backup fine.a l c) → Copied fine.a a' (in_master fine.a l c) (in_backup fine.a l c) (in_master a' l' c) (in_backup a' l' c))
    → cards_weight a' + 1 ≤ cards_weight fine.a → Fine size s' l'
moves_cards {size} {s} {l} fine s' l' a' clients steps exec carded listed changed copied falls =
    let a = fine.a in
    let each = λ (c : ℕ) (low : 1 ≤ c) (high : c ≤ length s.clients).
    let r = fine.rows c low high in
    stays a a' (sane fine) changed _ _ _ _ _ _ r.known (copied c _ _ r.known) _ _ r.row in
    let not_heavier = total_falls a a' s.clients (λ c low high. (each c low high).1) in
    record {
      a = a';
      cards = carded;
      lists = listed;
      commands = ap length clients ∙ fine.commands;
      rows = rw clients (λ c low high. let r = fine.rows c low high in record { row = (each c low high).0; known = known_stays a a' (sane fine) changed _ _ _ _ _ _ r.known (copied c _ _ r.known) });
      weighs = rw (steps, clients) (omega (arith, fine.weighs, not_heavier));
      exec = rw (exec, clients) fine.exec;
    }
