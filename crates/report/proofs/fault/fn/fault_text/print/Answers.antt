use Rattle.std.proofs.Common.{◌≡◌, ℕ, ◌+◌, ◌^◌, ◌<◌, ◌≤◌, List, ◌++◌, length, codes, decimal, ap, arith}
use Rattle.std.proofs.lemmas.List.{length-append}
use Rattle.report.specs.Lines.{line_text}
use Rattle.report.proofs.Bounds.{length_count_line}
use Rattle.report.proofs.Writing.{put_written, written_as, written_then}
use Rattle.report.proofs.fault.fn.fault_text.print.Goals as goal

two_lines_short : (key key' : List ℕ) (m n : ℕ) → m < 2 ^ 64 → n < 2 ^ 64 → length key ≤ 5 → length key' ≤ 5 → length (line_text key (decimal m) ++ line_text key' (decimal n)) < 2 ^ 64
two_lines_short key key' m n h h' k k' =
    let first : length (line_text key (decimal m)) ≤ length key + 22 = length_count_line key m h in
    let second : length (line_text key' (decimal n)) ≤ length key' + 22 = length_count_line key' n h' in
    let both : length (line_text key (decimal m) ++ line_text key' (decimal n)) ≡ length (line_text key (decimal m)) + length (line_text key' (decimal n)) = length-append (line_text key (decimal m)) (line_text key' (decimal n)) in
    omega arith

pub returns : goal.returns
returns c =
    let number = c.number.ensures in
    let line = c.line.ensures in
    record {
      short = two_lines_short (codes "fault") (codes "line") _ _ (omega arith) (omega arith) (omega arith) (omega arith);
      written = written_then
          (written_as (ap (λ (n : ℕ). line_text (codes "fault") (decimal n)) number) (put_written c.put_number_line.ensures))
          (written_as (ap (λ (n : ℕ). line_text (codes "line") (decimal n)) line) (put_written c.put_number_line-2.ensures));
    }
