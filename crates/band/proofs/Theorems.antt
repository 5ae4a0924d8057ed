-- The claims of specs/Theorems.antt, each under its name there in small letters.
use lib.IntN.{pos}
use Rattle.stroke.specs.Sweep.{path_points}
use Rattle.stroke.specs.Runs.{black_at}
use Rattle.band.specs.Theorems.{BandIsRows, BandsMeet, BandBits, TopRowIs, RoomForIs}
use Rattle.band.proofs.Seams.{bands_cut}
use Rattle.band.proofs.OneByOne.{rows_laid}
use Rattle.band.proofs.Pixels.{band_laid}
use Rattle.band.proofs.Refusals.{top_row_lem, room_for_lem}

pub band_is_rows : BandIsRows
band_is_rows cs path columns first n stride b h = rows_laid (λ j x. black_at cs (path_points path) (pos j) (pos x)) columns stride first n b h

pub bands_meet : BandsMeet
bands_meet cs path columns first k m stride b h = bands_cut (λ j x. black_at cs (path_points path) (pos j) (pos x)) columns first k m stride h b

pub band_bits : BandBits
band_bits cs path columns first n stride b w r = band_laid (λ j x. black_at cs (path_points path) (pos j) (pos x)) columns first n stride b w r

pub top_row_is : TopRowIs
top_row_is = top_row_lem

pub room_for_is : RoomForIs
room_for_is = room_for_lem
