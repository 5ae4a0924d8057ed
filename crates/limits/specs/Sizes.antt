-- Document 01, "Units and sizes": each number stands here once, with its sentence.
use Rattle.std.specs.Prelude.{ℕ, ◌≤◌, ◌<◌, ◌≡◌, Bool, true, ◌&&◌, List, leb, ltb, length, get_or, ℤ, pos, neg_ℤ}
use Rattle.std.specs.Int.Signed.{le_z}

-- x is from low to high
abbrev pub within : ℕ → ℕ → ℕ → Bool
within x low high = leb low x && leb x high

-- "Setting: width w in sixteenths, 16 to 512"
abbrev pub width_min : ℕ
width_min = 16

abbrev pub width_max : ℕ
width_max = 512

-- "aspect p/q with p and q each 1 to 16"
abbrev pub aspect_max : ℕ
aspect_max = 16

-- "Path: .. 1 to 4,096 points": two entries each; "an odd number, or more than 8,192"
abbrev pub entries_max : ℕ
entries_max = 8192

-- "each coordinate from -262,144 to 262,144"
abbrev pub coordinate_max : ℕ
coordinate_max = 262144

unfoldable pub in_range : ℤ → Bool
in_range z = le_z (neg_ℤ (pos coordinate_max)) z && le_z z (pos coordinate_max)

-- "Raster: columns and rows each 1 to 16,384."
abbrev pub raster_max : ℕ
raster_max = 16384

-- a number of columns or of rows that a raster can have; as a test, and as facts
abbrev pub is_size : ℕ → Bool
is_size n = within n 1 raster_max

pub record Size (n : ℕ) : Type 0 where
  pub some : 1 ≤ n
  pub few : n ≤ raster_max

-- "Rows, columns and path entries count from 0."
abbrev pub is_row : ℕ → Bool
is_row j = ltb j raster_max

-- what the checks leave to be drawn: a row of a raster, and a path whose coordinates are all in range
pub record Drawable (path : List ℤ) (columns row : ℕ) : Type 0 where
  pub coordinates : (k : ℕ) → k < length path → in_range (get_or path k (pos 0)) ≡ true
  pub size : Size columns
  pub low : row < raster_max

-- "Apertures are numbered 10 to 41: 32 places"
abbrev pub aperture_min : ℕ
aperture_min = 10

abbrev pub aperture_max : ℕ
aperture_max = 41

abbrev pub places : ℕ
places = 32

-- "It has at most 33 corners, the whole at most 132."
abbrev pub quarter_max : ℕ
quarter_max = 33

abbrev pub pen_max : ℕ
pen_max = 132
