-- The totals are a short text.
use Rattle.std.proofs.Common.{◌≡◌, refl, ap, cond, None, ℕ, suc, ◌*◌, ◌^◌, ◌<◌, ◌≤◌, eqb, List, [], ◌∷◌, length, get_or, ℤ, IfSome, codes, decimal, arith, length-append}
use lib.Signed.{mag}
use Rattle.std.specs.List.{AllByRecursion}
use Rattle.std.proofs.lemmas.Bool.{cond_both}
use Rattle.registers.specs.Kind.{Fits64}
use Rattle.report.specs.Figures.{figures_text}
use Rattle.report.proofs.Bounds.{length_number, length_mean, length_figures}
use Rattle.registers.specs.Mean.{mean_of as mean_of_kind, mean_of_first}
use Rattle.batch.specs.Totals.{name_of, mean_of, mean_text, letters_text, totals_text}

-- Both of the other kinds have no mean.
pub same_mean : (kind : ℕ) (figures : List ℤ) (version : ℕ) → mean_of_kind kind figures version ≡ mean_of kind figures version
same_mean kind figures version = ap (cond (eqb kind 1) (mean_of_first figures version)) (cond_both (eqb kind 2) None None (λ m. None ≡ m) (λ _. refl) (λ _. refl))

pub letters_short : (letter : ℕ) (ns : List ℕ) → ((k : ℕ) → get_or ns k 0 < 2 ^ 64) → length (letters_text letter ns) ≤ 23 * length ns
letters_short letter [] small = omega arith
letters_short letter (n ∷ ns) small =
    let one : length (decimal n) ≤ 20 = length_number n (small 0) in
    let rest : length (letters_text (suc letter) ns) ≤ 23 * length ns = letters_short (suc letter) ns (λ k. small (suc k)) in
    simp length-append (omega arith)

name_short : (kind : ℕ) → length (name_of kind) ≤ 7
name_short kind =
    cond_both (eqb kind 1) (codes "sum") _ (λ name. length name ≤ 7) (λ _. omega arith)
    (λ _. cond_both (eqb kind 2) (codes "classes") (codes "peak") (λ name. length name ≤ 7) (λ _. omega arith) (λ _. omega arith))

pub totals_short : (commands kills cards kind : ℕ) (figures : List ℤ) (letters : List ℕ) → commands < 2 ^ 64 → kills < 2 ^ 64 → cards < 2 ^ 64 → AllByRecursion Fits64 figures → length figures ≤ 1024 → IfSome (mean_of kind figures commands) (λ z. mag z < 2 ^ 63) → length (letters_text 65 letters) ≤ 414 → length (totals_text commands kills cards kind figures letters) < 2 ^ 64
unfolding totals_text
totals_short commands kills cards kind figures letters n k s fit few mean last =
    let first : length (decimal commands) ≤ 20 = length_number commands n in
    let second : length (decimal kills) ≤ 20 = length_number kills k in
    let third : length (decimal cards) ≤ 20 = length_number cards s in
    let name : length (name_of kind) ≤ 7 = name_short kind in
    let shown : length (figures_text figures) ≤ 21 * length figures = length_figures figures fit in
    let average : length (mean_text (mean_of kind figures commands)) ≤ 20 = length_mean (mean_of kind figures commands) mean in
    simp length-append (omega arith)
