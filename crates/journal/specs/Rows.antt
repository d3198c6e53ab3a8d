-- A journal as rows of bytes, each ended by a line feed (byte 10).
use Rattle.std.specs.Prelude.{◌≡◌, ℕ, ◌+◌, ◌<◌, cond, List, [], ◌∷◌, length, take, drop, Some, None, Option, ◌==◌, slice_index_or}

pub data Rows : Type 0 where
  end : Rows  -- nothing is left
  cut : Rows  -- bytes are left, and no line feed among them
  row : List ℕ → Rows → Rows  -- the bytes before the next line feed, and what follows it

-- One byte more in front.
abbrev pub byte_before : ℕ → Rows → Rows
byte_before b end = cut
byte_before b cut = cut
byte_before b (row bs rest) = row (b ∷ bs) rest

unfoldable pub rows_of : List ℕ → Rows
rows_of [] = end
rows_of (b ∷ bs) = cond (b == 10) (row [] (rows_of bs)) (byte_before b (rows_of bs))

-- What follows `front` in a text that begins with it.
unfoldable pub after_front : List ℕ → List ℕ → Option (List ℕ)
after_front [] text = Some text
after_front (f ∷ front) [] = None
after_front (f ∷ front) (b ∷ bs) = cond (f == b) (after_front front bs) None

-- The rows of bytes that hold no line feed.
abbrev pub rest_without_feed : List ℕ → Rows
rest_without_feed [] = end
rest_without_feed (b ∷ bs) = cut

-- The first line feed stands behind `n` bytes.
pub record FirstRow (bytes : List ℕ) (n : ℕ) : Type 0 where
  pub inside : n < length bytes
  pub feed : slice_index_or bytes n 0 ≡ 10
  pub rows : rows_of bytes ≡ row (take n bytes) (rows_of (drop (n + 1) bytes))
