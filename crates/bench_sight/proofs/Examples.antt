-- Worked examples, computed.
use Rattle.std.proofs.Common.{◌≡◌, ◌++◌, ℕ, true, false, List, [], ◌∷◌, replicate, refl}
use Rattle.frame_meaning.specs.declared.reason.Reason.{Reason}
use Rattle.frame_meaning.specs.declared.verdict.Verdict.TheVariants.{Forward, Drop}
use Rattle.tag_view.specs.Frame.{Reading}
use Rattle.bench_history.specs.declared.extent.Extent.TheVariants.{Whole, Front}
use Rattle.bench_history.specs.declared.gem.SeenGem.TheVariants.{Port, Any}
use Rattle.bench_history.specs.declared.event.Event.TheVariants.{Strayed, Lost}
use Rattle.bench_sight.specs.Sight.{IsSeenAs, agree, is_enough, is_gem}

-- 16 bytes of a frame, and one behind them
abbrev short : List ℕ
short = replicate 12 2 ++ 8 ∷ 0 ∷ 69 ∷ 0 ∷ []

abbrev longer : List ℕ
longer = short ++ 7 ∷ []

abbrev other : List ℕ
other = replicate 12 2 ++ 8 ∷ 0 ∷ 69 ∷ 1 ∷ []

-- so many zeros behind them
abbrev with_zeros : ℕ → List ℕ
with_zeros n = short ++ replicate n 0

-- ---- what is known

a_front_of_24_bytes_is_enough : is_enough Front (replicate 24 0) ≡ true
a_front_of_24_bytes_is_enough = refl

a_shorter_front_is_not : is_enough Front (replicate 23 0) ≡ false
a_shorter_front_is_not = refl

a_whole_frame_is_enough : is_enough Whole short ≡ true
a_whole_frame_is_enough = refl

-- ---- whole frames and fronts

both_whole : agree false Whole short Whole short ≡ true
both_whole = refl

another_last_byte : agree false Whole short Whole other ≡ false
another_last_byte = refl

a_byte_more : agree false Whole short Whole longer ≡ false
a_byte_more = refl

a_byte_less : agree false Whole longer Whole short ≡ false
a_byte_less = refl

more_leaves_than_a_front_has : agree false Whole longer Front short ≡ true
more_leaves_than_a_front_has = refl

a_front_has_all_that_leaves : agree false Whole short Front short ≡ false
a_front_has_all_that_leaves = refl

a_front_is_longer_than_what_leaves : agree false Whole short Front longer ≡ false
a_front_is_longer_than_what_leaves = refl

a_front_leaves_and_more_was_seen : agree false Front short Whole longer ≡ true
a_front_leaves_and_more_was_seen = refl

a_front_leaves_and_no_more_was_seen : agree false Front short Whole short ≡ false
a_front_leaves_and_no_more_was_seen = refl

a_longer_front_leaves : agree false Front longer Whole short ≡ false
a_longer_front_leaves = refl

a_front_beside_a_longer_one : agree false Front short Front longer ≡ true
a_front_beside_a_longer_one = refl

a_front_beside_a_shorter_one : agree false Front longer Front short ≡ true
a_front_beside_a_shorter_one = refl

fronts_that_differ : agree false Front other Front longer ≡ false
fronts_that_differ = refl

-- ---- padding

padded_to_60_bytes : agree true Whole short Whole (with_zeros 44) ≡ true
padded_to_60_bytes = refl

padding_is_not_allowed : agree false Whole short Whole (with_zeros 44) ≡ false
padding_is_not_allowed = refl

padded_to_68_bytes : agree true Whole short Whole (with_zeros 52) ≡ true
padded_to_68_bytes = refl

padded_to_69_bytes : agree true Whole short Whole (with_zeros 53) ≡ false
padded_to_69_bytes = refl

no_padding_is_needed : agree true Whole short Whole short ≡ true
no_padding_is_needed = refl

a_byte_that_is_not_zero : agree true Whole short Whole (with_zeros 43 ++ 1 ∷ []) ≡ false
a_byte_that_is_not_zero = refl

a_long_frame_is_not_padded : agree true Whole (replicate 68 5) Whole (replicate 68 5 ++ 0 ∷ []) ≡ false
a_long_frame_is_not_padded = refl

a_front_of_a_padded_frame : agree true Whole short Front (with_zeros 8) ≡ true
a_front_of_a_padded_frame = refl

a_front_of_a_frame_that_is_not_padded : agree false Whole short Front (with_zeros 8) ≡ false
a_front_of_a_frame_that_is_not_padded = refl

a_front_of_68_bytes : agree true Whole short Front (with_zeros 52) ≡ false
a_front_of_68_bytes = refl

a_front_that_leaves_is_not_padded : agree true Front (with_zeros 4) Whole short ≡ false
a_front_that_leaves_is_not_padded = refl

-- ---- how it ends

its_gem_port : is_gem 1024 (Port 1024) ≡ true
its_gem_port = refl

another_gem_port : is_gem 1024 (Port 1025) ≡ false
another_gem_port = refl

a_gem_port_that_was_not_seen : is_gem 1024 Any ≡ true
a_gem_port_that_was_not_seen = refl

-- a frame that is dropped may be lost, and no frame ends by a stray
a_dropped_frame_is_lost : (reason : Reason) → IsSeenAs false (Drop reason) Whole (Lost 0)
a_dropped_frame_is_lost reason = tt

a_frame_that_leaves_is_not_lost : (frame : Reading) → IsSeenAs false (Forward 1024 frame) Whole (Lost 0) → ⊥
a_frame_that_leaves_is_not_lost frame seen_as = seen_as

a_stray_ends_no_frame : (frame : Reading) → IsSeenAs false (Forward 1024 frame) Whole (Strayed (Port 1024) Whole short) → ⊥
a_stray_ends_no_frame frame seen_as = seen_as
