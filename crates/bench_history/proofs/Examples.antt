-- Worked examples, computed.
use Rattle.std.proofs.Common.{◌≡◌, ◌++◌, ℕ, List, [], ◌∷◌, Some, None, Ok, Err, refl}
use Rattle.std.specs.Prelude.{codes}
use Rattle.hex.specs.Hex.{decode_pairs}
use Rattle.bench_history.specs.History.{history_of}
use Rattle.bench_history.specs.Line.{event_of}
use Rattle.bench_history.specs.declared.event.Event.TheVariants.{Sent, Replied, Entered, Left, LeftOneOf, Strayed, Dropped, Lost, Waited, Ended, Nothing}
use Rattle.bench_history.specs.declared.extent.Extent.TheVariants.{Whole, Front}
use Rattle.bench_history.specs.declared.gem.SeenGem.TheVariants.{Port, Any}

-- lines, each with its line feed
abbrev lines : List (List ℕ) → List ℕ
lines [] = []
lines (line ∷ more) = line ++ 10 ∷ [] ++ lines more

each_kind : history_of (lines (codes "# one" ∷ codes "o 0aF0" ∷ codes "r " ∷ codes "f 00257 0102" ∷ codes "f 65535 " ∷ codes "g 1 1024 03" ∷ codes "d 0000000000" ∷ codes "w" ∷ codes "w 1" ∷ [] ∷ []))
    ≡ Ok (Nothing ∷ Sent (10 ∷ 240 ∷ []) ∷ Replied [] ∷ Entered 257 Whole (1 ∷ 2 ∷ []) ∷ Entered 65535 Whole [] ∷ Left (Port 1024) Whole 1 (3 ∷ []) ∷ Dropped 0 ∷ Waited None ∷ Waited (Some 1) ∷ Nothing ∷ [])
unfolding event_of decode_pairs
each_kind = refl

no_such_frame : history_of (codes "g 0 1 00") ≡ Err 1
unfolding event_of decode_pairs
no_such_frame = refl

ended_twice : history_of (lines (codes "f 1 00" ∷ codes "d 0" ∷ codes "d 0" ∷ [])) ≡ Err 3
unfolding event_of decode_pairs
ended_twice = refl

no_such_reply : history_of (codes "w 1") ≡ Err 1
unfolding event_of decode_pairs
no_such_reply = refl

a_port_too_high : event_of (codes "f 65536 00") ≡ None
unfolding event_of decode_pairs
a_port_too_high = refl

a_number_too_long : event_of (codes "d 12345678901") ≡ None
unfolding event_of decode_pairs
a_number_too_long = refl

-- ---- strays, lost frames and the end

to_the_end : history_of (lines (codes "f 1 00" ∷ codes "s 7 01" ∷ codes "l 0" ∷ codes "e" ∷ codes "# end" ∷ [] ∷ []))
    ≡ Ok (Entered 1 Whole (0 ∷ []) ∷ Strayed (Port 7) Whole (1 ∷ []) ∷ Lost 0 ∷ Ended ∷ Nothing ∷ Nothing ∷ [])
unfolding event_of decode_pairs
to_the_end = refl

a_frame_behind_the_end : history_of (lines (codes "e" ∷ [] ∷ codes "f 1 00" ∷ [])) ≡ Err 3
unfolding event_of decode_pairs
a_frame_behind_the_end = refl

a_second_end : history_of (lines (codes "e" ∷ codes "e" ∷ [])) ≡ Err 2
unfolding event_of decode_pairs
a_second_end = refl

a_frame_that_left_is_lost : history_of (lines (codes "f 1 00" ∷ codes "g 0 1 00" ∷ codes "l 0" ∷ [])) ≡ Err 3
unfolding event_of decode_pairs
a_frame_that_left_is_lost = refl

lost_before_sent : history_of (lines (codes "l 0" ∷ codes "f 1 00" ∷ [])) ≡ Err 1
unfolding event_of decode_pairs
lost_before_sent = refl

an_end_with_a_word : event_of (codes "e 0") ≡ None
unfolding event_of decode_pairs
an_end_with_a_word = refl

-- ---- fronts, and GEM ports that weren't seen

a_front_sent : event_of (codes "f 1 0102..") ≡ Some (Entered 1 Front (1 ∷ 2 ∷ []))
unfolding event_of decode_pairs
a_front_sent = refl

a_front_left_somewhere : event_of (codes "g 0 any 01..") ≡ Some (Left Any Front 0 (1 ∷ []))
unfolding event_of decode_pairs
a_front_left_somewhere = refl

a_stray_seen_somewhere : event_of (codes "s any 0a..") ≡ Some (Strayed Any Front (10 ∷ []))
unfolding event_of decode_pairs
a_stray_seen_somewhere = refl

no_byte_of_a_frame : event_of (codes "f 1 ..") ≡ Some (Entered 1 Front [])
unfolding event_of decode_pairs
no_byte_of_a_frame = refl

a_front_behind_a_space : event_of (codes "f 1 01 ..") ≡ None
unfolding event_of decode_pairs
a_front_behind_a_space = refl

a_front_by_one_dot : event_of (codes "f 1 01.") ≡ None
unfolding event_of decode_pairs
a_front_by_one_dot = refl

half_a_byte_in_front : event_of (codes "f 1 010..") ≡ None
unfolding event_of decode_pairs
half_a_byte_in_front = refl

a_front_of_a_message : event_of (codes "o 01..") ≡ None
unfolding event_of decode_pairs
a_front_of_a_message = refl

a_front_of_a_reply : event_of (codes "r 01..") ≡ None
unfolding event_of decode_pairs
a_front_of_a_reply = refl

any_port : event_of (codes "f any 01") ≡ None
unfolding event_of decode_pairs
any_port = refl

a_gem_port_in_capitals : event_of (codes "s Any 01") ≡ None
unfolding event_of decode_pairs
a_gem_port_in_capitals = refl

-- ---- frames of which one left

one_of_two_twice : history_of (lines (codes "f 1 00" ∷ codes "f 2 00" ∷ codes "a 7 00 0 1" ∷ codes "a any 0102.. 0 1" ∷ []))
    ≡ Ok (Entered 1 Whole (0 ∷ []) ∷ Entered 2 Whole (0 ∷ [])
    ∷ LeftOneOf (Port 7) Whole (record { frame = 0 ∷ []; numbers = 0 ∷ 1 ∷ [] })
    ∷ LeftOneOf Any Front (record { frame = 1 ∷ 2 ∷ []; numbers = 0 ∷ 1 ∷ [] }) ∷ [])
unfolding event_of decode_pairs
one_of_two_twice = refl

one_of_two_a_third_time : history_of (lines (codes "f 1 00" ∷ codes "f 2 00" ∷ codes "a 7 00 0 1" ∷ codes "a 7 00 0 1" ∷ codes "a 7 00 0 1" ∷ []))
    ≡ Err 5
unfolding event_of decode_pairs
one_of_two_a_third_time = refl

-- the three have left, and no line names them alone three times
one_that_is_used_up : history_of (lines (codes "f 1 00" ∷ codes "f 1 00" ∷ codes "f 1 00" ∷ codes "a 7 00 0 1 2" ∷ codes "a 7 00 0" ∷ codes "a 7 00 2"
    ∷ codes "a 7 00 1" ∷ [])) ≡ Err 7
unfolding event_of decode_pairs
one_that_is_used_up = refl

a_doubtful_frame_is_lost : history_of (lines (codes "f 1 00" ∷ codes "f 2 00" ∷ codes "a 7 00 0 1" ∷ codes "l 0" ∷ [])) ≡ Err 4
unfolding event_of decode_pairs
a_doubtful_frame_is_lost = refl

a_doubtful_frame_leaves : history_of (lines (codes "f 1 00" ∷ codes "f 2 00" ∷ codes "a 7 00 0 1" ∷ codes "g 1 7 00" ∷ [])) ≡ Err 4
unfolding event_of decode_pairs
a_doubtful_frame_leaves = refl

one_of_one : history_of (lines (codes "f 1 00" ∷ codes "a 7 00 0" ∷ [])) ≡ Err 2
unfolding event_of decode_pairs
one_of_one = refl

one_that_ended : history_of (lines (codes "f 1 00" ∷ codes "f 1 00" ∷ codes "d 0" ∷ codes "a 7 00 0 1" ∷ [])) ≡ Err 4
unfolding event_of decode_pairs
one_that_ended = refl

one_not_sent : history_of (lines (codes "f 1 00" ∷ codes "a 7 00 0 1" ∷ [])) ≡ Err 2
unfolding event_of decode_pairs
one_not_sent = refl

the_same_twice : event_of (codes "a 7 00 1 1") ≡ None
unfolding event_of decode_pairs
the_same_twice = refl

one_of_none : event_of (codes "a 7 00") ≡ None
unfolding event_of decode_pairs
one_of_none = refl

a_space_behind : event_of (codes "a 7 00 0 1 ") ≡ None
unfolding event_of decode_pairs
a_space_behind = refl
