-- Worked examples, computed.
use Rattle.std.proofs.Common.{◌≡◌, ℕ, List, [], ◌∷◌, Some, None, false, refl}
use Rattle.tag_view.specs.Tag.{TagFields}
use Rattle.tag_view.specs.Dscp.{group_of}
use Rattle.pmapper.specs.Mapper.{Unmarked, priority_of, pointer_of}

-- DSCP 46 has priority 5
mapping : List ℕ
mapping =
    0 ∷ 0 ∷ 0 ∷ 0 ∷ 0 ∷ 0 ∷ 0 ∷ 0 ∷ 0 ∷ 0 ∷ 0 ∷ 0 ∷ 0 ∷ 0 ∷ 0 ∷ 0 ∷ 0 ∷ 0x28 ∷ 0 ∷ 0 ∷ 0 ∷ 0 ∷ 0 ∷ 0 ∷ []

-- an unmarked frame option, and a default P-bit assumption
unmarked : ℕ → ℕ → Unmarked
unmarked option default_p_bit = record { option = option; dscp_map = mapping; default_p_bit = default_p_bit }

tag : ℕ → ℕ → TagFields
tag tpid pcp = record { tpid = tpid; pcp = pcp; dei = false; vid = 100 }

by_dscp : priority_of (unmarked 0 3) [] (Some 46) ≡ 5
unfolding priority_of group_of mapping unmarked
by_dscp = refl

without_dscp : priority_of (unmarked 0 3) [] None ≡ 3
unfolding priority_of unmarked
without_dscp = refl

by_default : priority_of (unmarked 1 3) [] (Some 46) ≡ 3
unfolding priority_of unmarked
by_default = refl

by_another_option : priority_of (unmarked 2 3) [] (Some 46) ≡ 3
unfolding priority_of unmarked
by_another_option = refl

low_bits : priority_of (unmarked 1 0xfb) [] None ≡ 3
unfolding priority_of unmarked
low_bits = refl

by_tag : priority_of (unmarked 0 3) (tag 0x88a8 2 ∷ tag 0x8100 6 ∷ []) (Some 46) ≡ 2
unfolding priority_of unmarked tag
by_tag = refl

-- the pointer of priority 3 is null
pointers : List ℕ
pointers = 0x0501 ∷ 0x0502 ∷ 0x0503 ∷ 0xffff ∷ 0x0505 ∷ 0x0506 ∷ 0x0507 ∷ 0x0508 ∷ []

first_pointer : pointer_of pointers 0 ≡ Some 0x0501
unfolding pointer_of pointers
first_pointer = refl

null_pointer : pointer_of pointers 3 ≡ None
unfolding pointer_of pointers
null_pointer = refl

last_pointer : pointer_of pointers 7 ≡ Some 0x0508
unfolding pointer_of pointers
last_pointer = refl
