-- The claims of specs/Theorems.antt, each under its name there.
use Rattle.setting.specs.Theorems.{TakenIff, DyFloor, DxFloor}
use Rattle.setting.proofs.Limits as limits
use Rattle.setting.proofs.Size as size

pub taken_iff : TakenIff
taken_iff = limits.taken_iff

pub dy_floor : DyFloor
dy_floor = size.dy_floor

pub dx_floor : DxFloor
dx_floor = size.dx_floor
