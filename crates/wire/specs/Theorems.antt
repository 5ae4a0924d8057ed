-- What the numbers in bytes are, by value and by place. The claims are types; proofs/Theorems.antt proves each under its name.
use Rattle.std.specs.Prelude.{ℕ, ◌+◌, ◌*◌, ◌^◌, ◌<◌, ◌≡◌, List, length, get_or, ℤ, pos, neg_ℤ, ◌+ℤ◌, ◌*ℤ◌}
use Rattle.integers.specs.Orders.{◌≼◌, ◌≺◌}
use Rattle.wire.specs.Read.{entries_of}
use Rattle.wire.specs.Write.{word_bytes}

-- every number of the list is a byte
abbrev pub AreBytes : List ℕ → Type 0
AreBytes l = (i : ℕ) → i < length l → get_or l i 0 < 256

-- "two's complement", of 32 bits: z is from -2^31 up to 2^31 - 1, and differs from n by a multiple of 2^32
pub record TwosComplement (n : ℕ) (z : ℤ) : Type 0 where
  pub least : neg_ℤ (pos (2 ^ 31)) ≼ z
  pub most : z ≺ pos (2 ^ 31)
  pub turns : ℤ
  pub same : z +ℤ turns *ℤ pos (2 ^ 32) ≡ pos n

-- "lowest byte first": what coordinate k's four bytes count, the first of them ones, and each other 256 times what the one before it counts
abbrev pub four_count : List ℕ → ℕ → ℕ
four_count bytes k = get_or bytes (4 * k) 0 + 256 * get_or bytes (4 * k + 1) 0 + 65536 * get_or bytes (4 * k + 2) 0 + 16777216 * get_or bytes (4 * k + 3) 0

-- "the path is bytes, four to a coordinate, two's complement, lowest byte first": n coordinates of 4 n bytes, and coordinate k the only number that its four
-- bytes can mean
pub record PathOfBytes (bytes : List ℕ) (n : ℕ) : Type 0 where
  pub four_each : length (entries_of bytes) ≡ n
  pub value : (k : ℕ) → k < n → TwosComplement (four_count bytes k) (get_or (entries_of bytes) k (pos 0))
  pub only : (k : ℕ) → k < n → (z : ℤ) → TwosComplement (four_count bytes k) z → z ≡ get_or (entries_of bytes) k (pos 0)

abbrev pub EntriesAre : Type 0
EntriesAre = (bytes : List ℕ) (n : ℕ) → AreBytes bytes → length bytes ≡ 4 * n → PathOfBytes bytes n

-- "two bytes each, lowest first": number k of a list is what bytes 2 k and 2 k + 1 count
pub record WordsOf (list bytes : List ℕ) : Type 0 where
  pub two_each : length bytes ≡ 2 * length list
  pub bytes_all : AreBytes bytes
  pub value : (k : ℕ) → k < length list → get_or bytes (2 * k) 0 + 256 * get_or bytes (2 * k + 1) 0 ≡ get_or list k 0

abbrev pub WordsAre : Type 0
WordsAre = (list : List ℕ) → ((k : ℕ) → k < length list → get_or list k 0 < 65536) → WordsOf list (word_bytes list)
