-- The legend, stroke by stroke, in units. The program holds it as Gerber text (src/legend.rt): the contract of `read` says that the text has these strokes and no other.
-- A dot is a stroke of one unit, since no text of W4's has a stroke of one point.
use Rattle.std.specs.Prelude.{ℕ, ◌+◌, List, [], ◌∷◌, ◌++◌, map, length, ℤ, pos, neg_ℤ}
use Rattle.drawing.specs.Strokes.{Drawing}

-- a stroke: its aperture, and x, y, x, y, .. of its points
pub record Stroke : Type 0 where
  pub aperture : ℕ
  pub path : List ℤ

abbrev stroke : ℕ → List ℤ → Stroke
stroke aperture path = record { aperture = aperture; path = path }

-- where the entries of each start, one behind the other from n on, with the end of the last
abbrev pub starts_from : ℕ → List Stroke → List ℕ
starts_from n [] = n ∷ []
starts_from n (s ∷ l) = n ∷ starts_from (n + length s.path) l

abbrev pub entries_of : List Stroke → List ℤ
entries_of [] = []
entries_of (s ∷ l) = s.path ++ entries_of l

-- w, p, q of apertures 10 to 27
unfoldable pub settings : List ℕ
settings =
    32 ∷ 1 ∷ 1 ∷ 80 ∷ 1 ∷ 1 ∷ 48 ∷ 1 ∷ 1 ∷ 24 ∷ 1 ∷ 1 ∷ 512 ∷ 1 ∷ 1 ∷ 384 ∷ 1 ∷ 1 ∷ 256 ∷ 1 ∷ 1 ∷ 192 ∷ 1 ∷ 1 ∷ 128 ∷ 1 ∷ 1 ∷
    96 ∷ 1 ∷ 1 ∷ 64 ∷ 1 ∷ 1 ∷ 16 ∷ 1 ∷ 1 ∷ 320 ∷ 1 ∷ 1 ∷ 192 ∷ 1 ∷ 6 ∷ 32 ∷ 6 ∷ 1 ∷ 512 ∷ 1 ∷ 2 ∷ 256 ∷ 2 ∷ 1 ∷ 384 ∷ 1 ∷ 3 ∷ []

unfoldable pub strokes : List Stroke
strokes =
    -- trim mark
    stroke 10 (pos 192 ∷ pos 320 ∷ neg_ℤ (pos 640) ∷ pos 320 ∷ []) ∷
    stroke 10 (pos 320 ∷ pos 192 ∷ pos 320 ∷ neg_ℤ (pos 640) ∷ []) ∷
    stroke 10 (pos 192 ∷ pos 6064 ∷ neg_ℤ (pos 640) ∷ pos 6064 ∷ []) ∷
    stroke 10 (pos 320 ∷ pos 6192 ∷ pos 320 ∷ pos 7024 ∷ []) ∷
    stroke 10 (pos 10032 ∷ pos 320 ∷ pos 10864 ∷ pos 320 ∷ []) ∷
    stroke 10 (pos 9904 ∷ pos 192 ∷ pos 9904 ∷ neg_ℤ (pos 640) ∷ []) ∷
    stroke 10 (pos 10032 ∷ pos 6064 ∷ pos 10864 ∷ pos 6064 ∷ []) ∷
    stroke 10 (pos 9904 ∷ pos 6192 ∷ pos 9904 ∷ pos 7024 ∷ []) ∷
    -- title P
    stroke 11 (pos 2039 ∷ pos 5408 ∷ pos 2039 ∷ pos 5920 ∷ pos 2295 ∷ pos 5920 ∷ pos 2381 ∷ pos 5835 ∷ pos 2381 ∷ pos 5707 ∷ pos 2295 ∷ pos 5621 ∷ pos 2039 ∷ pos 5621 ∷ []) ∷
    -- title A
    stroke 11 (pos 2569 ∷ pos 5408 ∷ pos 2569 ∷ pos 5749 ∷ pos 2739 ∷ pos 5920 ∷ pos 2910 ∷ pos 5749 ∷ pos 2910 ∷ pos 5408 ∷ pos 2910 ∷ pos 5621 ∷ pos 2569 ∷ pos 5621 ∷ []) ∷
    -- title N
    stroke 11 (pos 3098 ∷ pos 5408 ∷ pos 3098 ∷ pos 5920 ∷ pos 3439 ∷ pos 5408 ∷ pos 3439 ∷ pos 5920 ∷ []) ∷
    -- title E
    stroke 11 (pos 3968 ∷ pos 5408 ∷ pos 3627 ∷ pos 5408 ∷ pos 3627 ∷ pos 5664 ∷ pos 3883 ∷ pos 5664 ∷ pos 3627 ∷ pos 5664 ∷ pos 3627 ∷ pos 5920 ∷ pos 3968 ∷ pos 5920 ∷ []) ∷
    -- title L
    stroke 11 (pos 4156 ∷ pos 5920 ∷ pos 4156 ∷ pos 5408 ∷ pos 4497 ∷ pos 5408 ∷ []) ∷
    stroke 11 (pos 5214 ∷ pos 5920 ∷ pos 5214 ∷ pos 5408 ∷ pos 5555 ∷ pos 5408 ∷ []) ∷
    -- title E
    stroke 11 (pos 6084 ∷ pos 5408 ∷ pos 5743 ∷ pos 5408 ∷ pos 5743 ∷ pos 5664 ∷ pos 5999 ∷ pos 5664 ∷ pos 5743 ∷ pos 5664 ∷ pos 5743 ∷ pos 5920 ∷ pos 6084 ∷ pos 5920 ∷ []) ∷
    -- title G
    stroke 11 (pos 6613 ∷ pos 5835 ∷ pos 6528 ∷ pos 5920 ∷ pos 6357 ∷ pos 5920 ∷ pos 6272 ∷ pos 5835 ∷ pos 6272 ∷ pos 5493 ∷ pos 6357 ∷ pos 5408 ∷ pos 6528 ∷ pos 5408 ∷ pos 6613 ∷ pos 5493 ∷ pos 6613 ∷ pos 5664 ∷ pos 6485 ∷ pos 5664 ∷ []) ∷
    -- title E
    stroke 11 (pos 7142 ∷ pos 5408 ∷ pos 6801 ∷ pos 5408 ∷ pos 6801 ∷ pos 5664 ∷ pos 7057 ∷ pos 5664 ∷ pos 6801 ∷ pos 5664 ∷ pos 6801 ∷ pos 5920 ∷ pos 7142 ∷ pos 5920 ∷ []) ∷
    -- title N
    stroke 11 (pos 7330 ∷ pos 5408 ∷ pos 7330 ∷ pos 5920 ∷ pos 7671 ∷ pos 5408 ∷ pos 7671 ∷ pos 5920 ∷ []) ∷
    -- title D
    stroke 11 (pos 7859 ∷ pos 5408 ∷ pos 7859 ∷ pos 5920 ∷ pos 8073 ∷ pos 5920 ∷ pos 8201 ∷ pos 5792 ∷ pos 8201 ∷ pos 5536 ∷ pos 8073 ∷ pos 5408 ∷ pos 7859 ∷ pos 5408 ∷ []) ∷
    -- rule across the film
    stroke 12 (neg_ℤ (pos 640) ∷ pos 5088 ∷ pos 10880 ∷ pos 5088 ∷ []) ∷
    -- label 3
    stroke 13 (pos 696 ∷ pos 976 ∷ pos 803 ∷ pos 976 ∷ pos 743 ∷ pos 909 ∷ pos 776 ∷ pos 909 ∷ pos 803 ∷ pos 883 ∷ pos 803 ∷ pos 843 ∷ pos 776 ∷ pos 816 ∷ pos 723 ∷ pos 816 ∷ pos 696 ∷ pos 843 ∷ []) ∷
    -- label 2
    stroke 13 (pos 853 ∷ pos 949 ∷ pos 880 ∷ pos 976 ∷ pos 933 ∷ pos 976 ∷ pos 960 ∷ pos 949 ∷ pos 960 ∷ pos 923 ∷ pos 853 ∷ pos 816 ∷ pos 960 ∷ pos 816 ∷ []) ∷
    -- rule 32
    stroke 14 (pos 1472 ∷ pos 896 ∷ pos 2880 ∷ pos 896 ∷ []) ∷
    -- label 2
    stroke 13 (pos 696 ∷ pos 1637 ∷ pos 723 ∷ pos 1664 ∷ pos 776 ∷ pos 1664 ∷ pos 803 ∷ pos 1637 ∷ pos 803 ∷ pos 1611 ∷ pos 696 ∷ pos 1504 ∷ pos 803 ∷ pos 1504 ∷ []) ∷
    -- label 4
    stroke 13 (pos 933 ∷ pos 1504 ∷ pos 933 ∷ pos 1664 ∷ pos 853 ∷ pos 1557 ∷ pos 960 ∷ pos 1557 ∷ []) ∷
    -- rule 24
    stroke 15 (pos 1408 ∷ pos 1584 ∷ pos 2944 ∷ pos 1584 ∷ []) ∷
    -- label 1
    stroke 13 (pos 723 ∷ pos 2184 ∷ pos 763 ∷ pos 2224 ∷ pos 763 ∷ pos 2064 ∷ []) ∷
    -- label 6
    stroke 13 (pos 947 ∷ pos 2224 ∷ pos 893 ∷ pos 2224 ∷ pos 853 ∷ pos 2171 ∷ pos 853 ∷ pos 2091 ∷ pos 880 ∷ pos 2064 ∷ pos 933 ∷ pos 2064 ∷ pos 960 ∷ pos 2091 ∷ pos 960 ∷ pos 2131 ∷ pos 933 ∷ pos 2157 ∷ pos 853 ∷ pos 2157 ∷ []) ∷
    -- rule 16
    stroke 16 (pos 1344 ∷ pos 2144 ∷ pos 3008 ∷ pos 2144 ∷ []) ∷
    -- label 1
    stroke 13 (pos 723 ∷ pos 2648 ∷ pos 763 ∷ pos 2688 ∷ pos 763 ∷ pos 2528 ∷ []) ∷
    -- label 2
    stroke 13 (pos 853 ∷ pos 2661 ∷ pos 880 ∷ pos 2688 ∷ pos 933 ∷ pos 2688 ∷ pos 960 ∷ pos 2661 ∷ pos 960 ∷ pos 2635 ∷ pos 853 ∷ pos 2528 ∷ pos 960 ∷ pos 2528 ∷ []) ∷
    -- rule 12
    stroke 17 (pos 1312 ∷ pos 2608 ∷ pos 3040 ∷ pos 2608 ∷ []) ∷
    -- label 8
    stroke 13 (pos 880 ∷ pos 3015 ∷ pos 853 ∷ pos 3035 ∷ pos 853 ∷ pos 3061 ∷ pos 880 ∷ pos 3088 ∷ pos 933 ∷ pos 3088 ∷ pos 960 ∷ pos 3061 ∷ pos 960 ∷ pos 3035 ∷ pos 933 ∷ pos 3015 ∷ pos 880 ∷ pos 3015 ∷ pos 853 ∷ pos 2988 ∷ pos 853 ∷ pos 2955 ∷ pos 880 ∷ pos 2928 ∷ pos 933 ∷ pos 2928 ∷ pos 960 ∷ pos 2955 ∷ pos 960 ∷ pos 2988 ∷ pos 933 ∷ pos 3015 ∷ []) ∷
    -- rule 8
    stroke 18 (pos 1280 ∷ pos 3008 ∷ pos 3072 ∷ pos 3008 ∷ []) ∷
    -- label 6
    stroke 13 (pos 947 ∷ pos 3440 ∷ pos 893 ∷ pos 3440 ∷ pos 853 ∷ pos 3387 ∷ pos 853 ∷ pos 3307 ∷ pos 880 ∷ pos 3280 ∷ pos 933 ∷ pos 3280 ∷ pos 960 ∷ pos 3307 ∷ pos 960 ∷ pos 3347 ∷ pos 933 ∷ pos 3373 ∷ pos 853 ∷ pos 3373 ∷ []) ∷
    -- rule 6
    stroke 19 (pos 1264 ∷ pos 3360 ∷ pos 3088 ∷ pos 3360 ∷ []) ∷
    -- label 4
    stroke 13 (pos 933 ∷ pos 3600 ∷ pos 933 ∷ pos 3760 ∷ pos 853 ∷ pos 3653 ∷ pos 960 ∷ pos 3653 ∷ []) ∷
    -- rule 4
    stroke 20 (pos 1248 ∷ pos 3680 ∷ pos 3104 ∷ pos 3680 ∷ []) ∷
    -- label 3
    stroke 13 (pos 853 ∷ pos 4056 ∷ pos 960 ∷ pos 4056 ∷ pos 900 ∷ pos 3989 ∷ pos 933 ∷ pos 3989 ∷ pos 960 ∷ pos 3963 ∷ pos 960 ∷ pos 3923 ∷ pos 933 ∷ pos 3896 ∷ pos 880 ∷ pos 3896 ∷ pos 853 ∷ pos 3923 ∷ []) ∷
    -- rule 3
    stroke 12 (pos 1240 ∷ pos 3976 ∷ pos 3112 ∷ pos 3976 ∷ []) ∷
    -- label 2
    stroke 13 (pos 853 ∷ pos 4309 ∷ pos 880 ∷ pos 4336 ∷ pos 933 ∷ pos 4336 ∷ pos 960 ∷ pos 4309 ∷ pos 960 ∷ pos 4283 ∷ pos 853 ∷ pos 4176 ∷ pos 960 ∷ pos 4176 ∷ []) ∷
    -- rule 2
    stroke 10 (pos 1232 ∷ pos 4256 ∷ pos 3120 ∷ pos 4256 ∷ []) ∷
    -- label 1
    stroke 13 (pos 880 ∷ pos 4560 ∷ pos 920 ∷ pos 4600 ∷ pos 920 ∷ pos 4440 ∷ []) ∷
    -- rule 1
    stroke 21 (pos 1224 ∷ pos 4520 ∷ pos 3128 ∷ pos 4520 ∷ []) ∷
    -- hub
    stroke 22 (pos 5120 ∷ pos 2688 ∷ pos 5121 ∷ pos 2688 ∷ []) ∷
    -- ray 0
    stroke 12 (pos 5536 ∷ pos 2688 ∷ pos 6528 ∷ pos 2688 ∷ []) ∷
    -- ray 15
    stroke 12 (pos 5522 ∷ pos 2796 ∷ pos 6480 ∷ pos 3052 ∷ []) ∷
    -- ray 30
    stroke 12 (pos 5480 ∷ pos 2896 ∷ pos 6339 ∷ pos 3392 ∷ []) ∷
    -- ray 45
    stroke 12 (pos 5414 ∷ pos 2982 ∷ pos 6116 ∷ pos 3684 ∷ []) ∷
    -- ray 60
    stroke 12 (pos 5328 ∷ pos 3048 ∷ pos 5824 ∷ pos 3907 ∷ []) ∷
    -- ray 75
    stroke 12 (pos 5228 ∷ pos 3090 ∷ pos 5484 ∷ pos 4048 ∷ []) ∷
    -- ray 90
    stroke 12 (pos 5120 ∷ pos 3104 ∷ pos 5120 ∷ pos 4096 ∷ []) ∷
    -- ray 105
    stroke 12 (pos 5012 ∷ pos 3090 ∷ pos 4756 ∷ pos 4048 ∷ []) ∷
    -- ray 120
    stroke 12 (pos 4912 ∷ pos 3048 ∷ pos 4416 ∷ pos 3907 ∷ []) ∷
    -- ray 135
    stroke 12 (pos 4826 ∷ pos 2982 ∷ pos 4124 ∷ pos 3684 ∷ []) ∷
    -- ray 150
    stroke 12 (pos 4760 ∷ pos 2896 ∷ pos 3901 ∷ pos 3392 ∷ []) ∷
    -- ray 165
    stroke 12 (pos 4718 ∷ pos 2796 ∷ pos 3760 ∷ pos 3052 ∷ []) ∷
    -- ray 180
    stroke 12 (pos 4704 ∷ pos 2688 ∷ pos 3712 ∷ pos 2688 ∷ []) ∷
    -- ray 195
    stroke 12 (pos 4718 ∷ pos 2580 ∷ pos 3760 ∷ pos 2324 ∷ []) ∷
    -- ray 210
    stroke 12 (pos 4760 ∷ pos 2480 ∷ pos 3901 ∷ pos 1984 ∷ []) ∷
    -- ray 225
    stroke 12 (pos 4826 ∷ pos 2394 ∷ pos 4124 ∷ pos 1692 ∷ []) ∷
    -- ray 240
    stroke 12 (pos 4912 ∷ pos 2328 ∷ pos 4416 ∷ pos 1469 ∷ []) ∷
    -- ray 255
    stroke 12 (pos 5012 ∷ pos 2286 ∷ pos 4756 ∷ pos 1328 ∷ []) ∷
    -- ray 270
    stroke 12 (pos 5120 ∷ pos 2272 ∷ pos 5120 ∷ pos 1280 ∷ []) ∷
    -- ray 285
    stroke 12 (pos 5228 ∷ pos 2286 ∷ pos 5484 ∷ pos 1328 ∷ []) ∷
    -- ray 300
    stroke 12 (pos 5328 ∷ pos 2328 ∷ pos 5824 ∷ pos 1469 ∷ []) ∷
    -- ray 315
    stroke 12 (pos 5414 ∷ pos 2394 ∷ pos 6116 ∷ pos 1692 ∷ []) ∷
    -- ray 330
    stroke 12 (pos 5480 ∷ pos 2480 ∷ pos 6339 ∷ pos 1984 ∷ []) ∷
    -- ray 345
    stroke 12 (pos 5522 ∷ pos 2580 ∷ pos 6480 ∷ pos 2324 ∷ []) ∷
    -- ring
    stroke 10 (pos 6784 ∷ pos 2688 ∷ pos 6727 ∷ pos 3119 ∷ pos 6561 ∷ pos 3520 ∷ pos 6297 ∷ pos 3865 ∷ pos 5952 ∷ pos 4129 ∷ pos 5551 ∷ pos 4295 ∷ pos 5120 ∷ pos 4352 ∷ pos 4689 ∷ pos 4295 ∷ pos 4288 ∷ pos 4129 ∷ pos 3943 ∷ pos 3865 ∷ pos 3679 ∷ pos 3520 ∷ pos 3513 ∷ pos 3119 ∷ pos 3456 ∷ pos 2688 ∷ pos 3513 ∷ pos 2257 ∷ pos 3679 ∷ pos 1856 ∷ pos 3943 ∷ pos 1511 ∷ pos 4288 ∷ pos 1247 ∷ pos 4689 ∷ pos 1081 ∷ pos 5120 ∷ pos 1024 ∷ pos 5551 ∷ pos 1081 ∷ pos 5952 ∷ pos 1247 ∷ pos 6297 ∷ pos 1511 ∷ pos 6561 ∷ pos 1856 ∷ pos 6727 ∷ pos 2257 ∷ pos 6784 ∷ pos 2688 ∷ []) ∷
    -- zigzag
    stroke 19 (pos 7168 ∷ pos 4032 ∷ pos 7456 ∷ pos 4608 ∷ pos 7744 ∷ pos 4032 ∷ pos 8032 ∷ pos 4608 ∷ pos 8320 ∷ pos 4032 ∷ pos 8608 ∷ pos 4608 ∷ pos 8896 ∷ pos 4032 ∷ pos 9184 ∷ pos 4608 ∷ pos 9472 ∷ pos 4032 ∷ []) ∷
    -- zigzag, upright pen
    stroke 23 (pos 7136 ∷ pos 2976 ∷ pos 7432 ∷ pos 3552 ∷ pos 7728 ∷ pos 2976 ∷ pos 8024 ∷ pos 3552 ∷ pos 8320 ∷ pos 2976 ∷ pos 8616 ∷ pos 3552 ∷ pos 8912 ∷ pos 2976 ∷ pos 9208 ∷ pos 3552 ∷ pos 9504 ∷ pos 2976 ∷ []) ∷
    -- zigzag, level pen
    stroke 24 (pos 7216 ∷ pos 1984 ∷ pos 7492 ∷ pos 2560 ∷ pos 7768 ∷ pos 1984 ∷ pos 8044 ∷ pos 2560 ∷ pos 8320 ∷ pos 1984 ∷ pos 8596 ∷ pos 2560 ∷ pos 8872 ∷ pos 1984 ∷ pos 9148 ∷ pos 2560 ∷ pos 9424 ∷ pos 1984 ∷ []) ∷
    -- dot
    stroke 14 (pos 7360 ∷ pos 1024 ∷ pos 7361 ∷ pos 1024 ∷ []) ∷
    stroke 25 (pos 8084 ∷ pos 1024 ∷ pos 8085 ∷ pos 1024 ∷ []) ∷
    stroke 26 (pos 8811 ∷ pos 1024 ∷ pos 8812 ∷ pos 1024 ∷ []) ∷
    stroke 27 (pos 9472 ∷ pos 1024 ∷ pos 9473 ∷ pos 1024 ∷ []) ∷
    []

unfoldable pub legend : Drawing
legend = record { settings = settings; apertures = map (λ (s : Stroke). s.aperture) strokes; starts = starts_from 0 strokes; entries = entries_of strokes }
