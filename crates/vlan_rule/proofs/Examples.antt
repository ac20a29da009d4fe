-- Worked examples, computed.
use Rattle.std.proofs.Common.{◌≡◌, ℕ, ◌+◌, ◌*◌, ◌++◌, suc, zero, List, [], ◌∷◌, None, Ok, Err, refl, map}
use Rattle.std.specs.Prelude.{length, Result}
use Rattle.vlan_rule.specs.declared.fault.RuleFault.TheVariants.{Priority, Mixed, TreatVid}
use Rattle.vlan_rule.specs.declared.fault.TableFault.{TableFault}
use Rattle.vlan_rule.specs.declared.fault.TableFault.TheVariants.{Bad, Full}
use Rattle.vlan_rule.specs.declared.put.Put.{Put}
use Rattle.vlan_rule.specs.declared.put.Put.TheVariants.{Added, Replaced, Deleted, Absent}
use Rattle.vlan_rule.specs.declared.kind.Kind.TheVariants.{NoTag, OneTagDefault, OneTag, TwoTagDefault, TwoTag}
use Rattle.vlan_rule.specs.Entry.{refusal_of, kind_of, value_of, number_of, key_of, entry_of}
use Rattle.vlan_rule.specs.Table.{is_deletion, predefined, put, told_by, left_by, table_max_size}

-- what puts are told, one after another, and the entries that they leave
told_in_turn : List (List ℕ) → List (List ℕ) → List (Result Put TableFault)
told_in_turn table [] = []
told_in_turn table (e ∷ rest) = told_by (put table e) ∷ told_in_turn (left_by table (put table e)) rest

left_in_turn : List (List ℕ) → List (List ℕ) → List (List ℕ)
left_in_turn table [] = table
left_in_turn table (e ∷ rest) = left_in_turn (left_by table (put table e)) rest

-- ---- deleting, overwriting in place, appending

a : ℕ → List ℕ
a rest = entry_of 0xf8000000f8000000 rest

b : ℕ → List ℕ
b rest = entry_of 0xf8000000f8000001 rest

deletion : ℕ
deletion = 0xffffffffffffffff

in_turn : List (List ℕ)
in_turn =
    a 0x000f000000000324 ∷ b 0x000f000000000644 ∷ b 0x000f000000000964 ∷ a 0x000f00000000032c
    ∷ a deletion ∷ a deletion ∷ a 0x000f000000000324 ∷ []

what_is_told : told_in_turn predefined in_turn
    ≡ Ok Added ∷ Ok Added ∷ Ok Replaced ∷ Ok Replaced ∷ Ok Deleted ∷ Ok Absent ∷ Ok Added ∷ []
unfolding told_in_turn in_turn a b deletion put key_of is_deletion refusal_of kind_of value_of number_of
what_is_told = refl

-- a key that was deleted and is set again goes last
what_is_left : left_in_turn predefined in_turn ≡ predefined ++ b 0x000f000000000964 ∷ a 0x000f000000000324 ∷ []
unfolding left_in_turn in_turn a b deletion put key_of is_deletion refusal_of kind_of value_of number_of
what_is_left = refl

-- ---- refusals

what_is_refused : told_in_turn predefined (a 0x000f000000007ffc ∷ entry_of 0xf800000098000000 0x000f0000000f0000 ∷ entry_of 0x38000000e8000000 0x000f0000000f0000 ∷ [])
    ≡ Err (Bad TreatVid) ∷ Err (Bad Priority) ∷ Err (Bad Mixed) ∷ []
unfolding told_in_turn a put key_of is_deletion refusal_of kind_of value_of number_of
what_is_refused = refl

-- a deletion is one whatever its key
deleted_before_refused : told_by (put predefined (entry_of 0x3fffffff98000000 deletion)) ≡ Ok Absent
unfolding deletion put key_of is_deletion
deleted_before_refused = refl

-- fields that don't count are not refused: VIDs and TPIDs of a no-tag entry, treatments that add
-- no tag, treatments of a frame that is dropped
what_does_not_count : map refusal_of (
    entry_of 0xd8009000f8009000 0x000f0000000f0000 ∷ a 0x000f7ffd000f7ffd ∷ a 0xc00b7ffd000b7ffd ∷ [])
    ≡ None ∷ None ∷ None ∷ []
unfolding refusal_of kind_of value_of number_of a
what_does_not_count = refl

-- ---- room

-- the entries of the VIDs from one on
run_of : ℕ → ℕ → List (List ℕ)
run_of zero vid = []
run_of (suc n) vid = entry_of (0xf800000080000000 + vid * 32768) 0x000f0000000f0000 ∷ run_of n (vid + 1)

full : List (List ℕ)
full = left_in_turn predefined (run_of 125 1)

when_full : told_in_turn full (run_of 1 126 ++ entry_of 0xf8000000803e8000 0xc00f0000000f0000 ∷ []) ≡ Err Full ∷ Ok Replaced ∷ []
unfolding full run_of left_in_turn told_in_turn put key_of is_deletion refusal_of kind_of value_of number_of
when_full = refl

how_full : length full ≡ table_max_size
unfolding full run_of left_in_turn put key_of is_deletion refusal_of kind_of value_of number_of
how_full = refl

-- ---- kinds

kinds : map (λ key. kind_of (entry_of key 0)) (0xd8000000f8000000 ∷ 0xf8000000e8000000 ∷ 0xf800000088000000 ∷ 0xe800000088000000 ∷ 0x0000000088000000 ∷ [])
    ≡ NoTag ∷ OneTagDefault ∷ OneTag ∷ TwoTagDefault ∷ TwoTag ∷ []
unfolding kind_of value_of number_of
kinds = refl
