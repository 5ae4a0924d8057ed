-- Document 01's "Building the pen" once more, as rules to hold against its words, in its order. They stand by themselves: whole numbers of either sign,
-- y upwards, no count of rounds, no search, and nothing of Cutting. What a rule says of an edge or a corner it says by an equation for each number.
-- The theorem `quarter_puts` (proofs/Theorems) says that the corners of `quarter` (Cutting) are what these rules put out, and `puts_unique` that they put
-- out nothing else.
use Rattle.std.specs.Prelude.{◌≡◌, List, [], ◌∷◌, ℤ, pos, neg_ℤ, ◌+ℤ◌, ◌-ℤ◌, ◌*ℤ◌}
use Rattle.integers.specs.Orders.{◌≼◌, ◌≺◌}
use Rattle.integers.specs.Compare.{min_z, max_z}
use Rattle.setting.specs.declared.Setting.{Setting}
use Rattle.setting.specs.Setting.{Dx, Dy}

abbrev pub square : ℤ → ℤ
square x = x *ℤ x

-- p²v² + q²u²
abbrev pub norm_z : Setting → ℤ → ℤ → ℤ
norm_z σ u v = square (pos σ.p) *ℤ square v +ℤ square (pos σ.q) *ℤ square u

-- "'Near root' of (u, v) is the whole m with 64q²(2m-1)² <= w²(p²v²+q²u²) < 64q²(2m+1)²."
pub record NearRootZ (σ : Setting) (u v m : ℤ) : Type 0 where
  pub least : pos 64 *ℤ square (pos σ.q) *ℤ square (pos 2 *ℤ m -ℤ pos 1) ≼ square (pos σ.w) *ℤ norm_z σ u v
  pub most : square (pos σ.w) *ℤ norm_z σ u v ≺ pos 64 *ℤ square (pos σ.q) *ℤ square (pos 2 *ℤ m +ℤ pos 1)

-- "An edge has a direction (u, v), an offset c (it lies on v*x - u*y = c), and counts l1, l2: its retained point is l1 directions after its start and l2
-- before its end."
pub record EdgeZ : Type 0 where
  pub u : ℤ
  pub v : ℤ
  pub c : ℤ
  pub l1 : ℤ
  pub l2 : ℤ

pub record CornerZ : Type 0 where
  pub x : ℤ
  pub y : ℤ

-- all of an edge
abbrev pub all_of : EdgeZ → ℤ
all_of E = E.l1 +ℤ E.l2

-- "Start with the corner (Dx, -Dy), the edge before it (1,0) with c = Dy, l1 = l2 = Dx, and the edge after it (0,1) with c = Dx, l1 = l2 = Dy."
abbrev pub start_corner : Setting → CornerZ
start_corner σ = record { x = pos (Dx σ); y = neg_ℤ (pos (Dy σ)) }

abbrev pub start_before : Setting → EdgeZ
start_before σ = record { u = pos 1; v = pos 0; c = pos (Dy σ); l1 = pos (Dx σ); l2 = pos (Dx σ) }

abbrev pub start_after : Setting → EdgeZ
start_after σ = record { u = pos 0; v = pos 1; c = pos (Dx σ); l1 = pos (Dy σ); l2 = pos (Dy σ) }

-- Step 1: "L.u*R.v - L.v*R.u"
abbrev pub turn : EdgeZ → EdgeZ → ℤ
turn L R = L.u *ℤ R.v -ℤ L.v *ℤ R.u

-- Step 2: "take s = min(L.l2, R.l1). If s > 0, reduce s to L.c + R.c - near root of the summed direction, where that is less."
pub data Amount (σ : Setting) (L R : EdgeZ) (s : ℤ) : Type 0 where
  none : s ≡ min_z L.l2 R.l1 → s ≼ pos 0 → Amount σ L R s
  some : {m : ℤ} → pos 0 ≺ min_z L.l2 R.l1 → NearRootZ σ (L.u +ℤ R.u) (L.v +ℤ R.v) m →
      s ≡ min_z (min_z L.l2 R.l1) (L.c +ℤ R.c -ℤ m) → Amount σ L R s

-- Steps 1 and 2: the corner is put out
pub data Out (σ : Setting) (L R : EdgeZ) : Type 0 where
  -- "If L.u*R.v - L.v*R.u > 1"
  turned : pos 1 ≺ turn L R → Out σ L R
  -- "Otherwise .. If s <= 0"
  spent : {s : ℤ} → turn L R ≼ pos 1 → Amount σ L R s → s ≼ pos 0 → Out σ L R

-- Step 3: "the new edge has the summed direction and offset L.c + R.c - s. It runs from s directions back along L to s directions on along R";
-- A is the corner that is cut, N the new edge, and it runs from B to E
pub record NewEdge (A : CornerZ) (L R : EdgeZ) (s : ℤ) (N : EdgeZ) (B E : CornerZ) : Type 0 where
  pub u : N.u ≡ L.u +ℤ R.u
  pub v : N.v ≡ L.v +ℤ R.v
  pub c : N.c ≡ L.c +ℤ R.c -ℤ s
  pub from_x : B.x ≡ A.x -ℤ s *ℤ L.u
  pub from_y : B.y ≡ A.y -ℤ s *ℤ L.v
  pub to_x : E.x ≡ A.x +ℤ s *ℤ R.u
  pub to_y : E.y ≡ A.y +ℤ s *ℤ R.v

-- Step 3: "L.l2 and R.l1 fall by s": K is what is left of L, and S what is left of R
pub record LeftOfL (L : EdgeZ) (s : ℤ) (K : EdgeZ) : Type 0 where
  pub u : K.u ≡ L.u
  pub v : K.v ≡ L.v
  pub c : K.c ≡ L.c
  pub l1 : K.l1 ≡ L.l1
  pub l2 : K.l2 ≡ L.l2 -ℤ s

pub record LeftOfR (R : EdgeZ) (s : ℤ) (S : EdgeZ) : Type 0 where
  pub u : S.u ≡ R.u
  pub v : S.v ≡ R.v
  pub c : S.c ≡ R.c
  pub l1 : S.l1 ≡ R.l1 -ℤ s
  pub l2 : S.l2 ≡ R.l2

-- Step 4: N takes the counts of another edge
pub record CountsOf (E N : EdgeZ) : Type 0 where
  pub l1 : N.l1 ≡ E.l1
  pub l2 : N.l2 ≡ E.l2

-- Step 4: k is "the nearest whole number (half goes up)" to n / d: k - 1/2 <= n/d < k + 1/2
pub record NearestTo (n d k : ℤ) : Type 0 where
  pub low : (pos 2 *ℤ k -ℤ pos 1) *ℤ d ≼ pos 2 *ℤ n
  pub high : pos 2 *ℤ n ≺ (pos 2 *ℤ k +ℤ pos 1) *ℤ d

-- Step 4: "l1 is the nearest whole number (half goes up) to (p²vc - x(p²v²+q²u²)) / (u(p²v²+q²u²)), x being its start's, brought into 0..s; l2 = s - l1"
pub record Retained (σ : Setting) (x s : ℤ) (N : EdgeZ) : Type 0 where
  pub k : ℤ
  pub nearest : NearestTo (square (pos σ.p) *ℤ N.v *ℤ N.c -ℤ x *ℤ norm_z σ N.u N.v) (N.u *ℤ norm_z σ N.u N.v) k
  pub l1 : N.l1 ≡ max_z (pos 0) (min_z s k)
  pub l2 : N.l2 ≡ s -ℤ N.l1

-- Steps 3 and 4: the corner A between L and R, which `rest` follows, is cut by s. The next corner that is not yet put out is C, between the edge K and the
-- edges `after`: the new edge's end where L is gone, its start where L is left.
pub data Cut (σ : Setting) (A : CornerZ) (s : ℤ) (L R : EdgeZ) (rest : List EdgeZ) (C : CornerZ) (K : EdgeZ) (after : List EdgeZ) : Type 0 where
  -- "Where s was all of L (l1 + l2 before the cut), the new edge takes L's place with L's counts from before the cut"
  left : {B : CornerZ} {S : EdgeZ} → s ≡ all_of L → ¬ (s ≡ all_of R) → NewEdge A L R s K B C → CountsOf L K → LeftOfR R s S → after ≡ S ∷ rest →
      Cut σ A s L R rest C K after
  -- "otherwise, where s was all of R, R's place and counts in the same way"
  right : {E : CornerZ} {N : EdgeZ} → ¬ (s ≡ all_of L) → s ≡ all_of R → NewEdge A L R s N C E → CountsOf R N → LeftOfL L s K → after ≡ N ∷ rest →
      Cut σ A s L R rest C K after
  -- "If both, both go, with L's counts."
  both : {B : CornerZ} → s ≡ all_of L → s ≡ all_of R → NewEdge A L R s K B C → CountsOf L K → after ≡ rest → Cut σ A s L R rest C K after
  -- "If neither, it is new"
  new : {E : CornerZ} {N S : EdgeZ} → ¬ (s ≡ all_of L) → ¬ (s ≡ all_of R) → NewEdge A L R s N C E → Retained σ C.x s N → LeftOfL L s K → LeftOfR R s S →
      after ≡ N ∷ S ∷ rest → Cut σ A s L R rest C K after

-- Step 5: "When a corner is put out, the edge after it drops its retained point: l2 becomes l1 + l2, and l1 becomes 0."; A is put out, R becomes K, and the
-- next corner C is its end
pub record Dropped (A : CornerZ) (R : EdgeZ) (C : CornerZ) (K : EdgeZ) : Type 0 where
  pub u : K.u ≡ R.u
  pub v : K.v ≡ R.v
  pub c : K.c ≡ R.c
  pub l1 : K.l1 ≡ pos 0
  pub l2 : K.l2 ≡ R.l1 +ℤ R.l2
  pub x : C.x ≡ A.x +ℤ all_of R *ℤ R.u
  pub y : C.y ≡ A.y +ℤ all_of R *ℤ R.v

-- The corners put out from the corner A on, between the edge L before it and the edges after it: "The quarter ends when no corner is left."
pub data Puts (σ : Setting) : CornerZ → EdgeZ → List EdgeZ → List CornerZ → Type 0 where
  nothing : {A : CornerZ} {L : EdgeZ} → Puts σ A L [] []
  puts : {A C : CornerZ} {L R K : EdgeZ} {rest : List EdgeZ} {cs : List CornerZ} → Out σ L R → Dropped A R C K → Puts σ C K rest cs →
      Puts σ A L (R ∷ rest) (A ∷ cs)
  cuts : {A C : CornerZ} {s : ℤ} {L R K : EdgeZ} {rest after : List EdgeZ} {cs : List CornerZ} → turn L R ≼ pos 1 → Amount σ L R s → pos 0 ≺ s →
      Cut σ A s L R rest C K after → Puts σ C K after cs → Puts σ A L (R ∷ rest) cs

-- What the steps come to from the start: a corner, the edge before it and the edges after it
pub data Comes (σ : Setting) : CornerZ → EdgeZ → List EdgeZ → Type 0 where
  start : Comes σ (start_corner σ) (start_before σ) (start_after σ ∷ [])
  putting : {A C : CornerZ} {L R K : EdgeZ} {rest : List EdgeZ} → Comes σ A L (R ∷ rest) → Out σ L R → Dropped A R C K → Comes σ C K rest
  cutting : {A C : CornerZ} {s : ℤ} {L R K : EdgeZ} {rest after : List EdgeZ} → Comes σ A L (R ∷ rest) → turn L R ≼ pos 1 → Amount σ L R s → pos 0 ≺ s →
      Cut σ A s L R rest C K after → Comes σ C K after

-- "it lies on v*x - u*y = c": so does the corner A
abbrev pub On : CornerZ → EdgeZ → Type 0
On A E = E.v *ℤ A.x -ℤ E.u *ℤ A.y ≡ E.c

-- the end of the edge E that starts at A: "its retained point is l1 directions after its start and l2 before its end"
abbrev pub end_of : CornerZ → EdgeZ → CornerZ
end_of A E = record { x = A.x +ℤ all_of E *ℤ E.u; y = A.y +ℤ all_of E *ℤ E.v }

-- the first edge starts at A and each other where the one before it ends, and they lie on their lines
pub data Lie : CornerZ → List EdgeZ → Type 0 where
  none_lies : {A : CornerZ} → Lie A []
  edge_lies : {A : CornerZ} {E : EdgeZ} {es : List EdgeZ} → On A E → Lie (end_of A E) es → Lie A (E ∷ es)
