-- Worked examples, computed: which bytes of a reply's contents are compared.
use Rattle.std.proofs.Common.{◌≡◌, ℕ, Bool, true, false, List, [], ◌∷◌, ◌++◌, map, replicate, refl}
use Rattle.omci_msg.specs.declared.action.Action.{Action}
use Rattle.omci_msg.specs.declared.action.Action.TheVariants.{Create, Get, GetNext, MibReset, MibUpload}
use Rattle.managed_entity.specs.Mask.{mask_of}
use Rattle.bench_reply.specs.Replies.{Wanted, is_compared}

-- a request with the first bytes of its contents and of those of its reply
abbrev asks : Action → ℕ → List ℕ → List ℕ → Wanted
asks action class asked told = record {
  request = record { tci = 1; action = action; wants_answer = true; class = class; instance = 0x0701; contents = asked ++ replicate 28 0 };
  reply = record { tci = 1; action = action; class = class; instance = 0x0701; contents = told ++ replicate 20 0 };
}

-- the places of a reply's first twelve bytes, and of its last five
abbrev places : List ℕ
places = 0 ∷ 1 ∷ 2 ∷ 3 ∷ 4 ∷ 5 ∷ 6 ∷ 7 ∷ 8 ∷ 9 ∷ 10 ∷ 11 ∷ 27 ∷ 28 ∷ 29 ∷ 30 ∷ 31 ∷ []

abbrev yes : Bool
yes = true

abbrev no : Bool
no = false

-- a Get of attribute 2 of class 171, the size that its table may have: its two bytes may be others
size_of_table : map (is_compared true (asks Get 171 (0x40 ∷ 0 ∷ 0 ∷ 0 ∷ []) (0 ∷ 0x40 ∷ 0 ∷ 0 ∷ 32 ∷ 0 ∷ 0 ∷ 0 ∷ 0 ∷ 0 ∷ 0 ∷ 0 ∷ []))) places
    ≡ yes ∷ yes ∷ yes ∷ no ∷ no ∷ yes ∷ yes ∷ yes ∷ yes ∷ yes ∷ yes ∷ yes ∷ yes ∷ yes ∷ yes ∷ yes ∷ yes ∷ []
unfolding mask_of
size_of_table = refl

-- attributes 1, 2, 5 and 6: association type, size, downstream mode, and the four bytes of the table
four_attributes : map (is_compared true (asks Get 171 (0xcc ∷ 0 ∷ 0 ∷ 0 ∷ []) (0 ∷ 0xcc ∷ 0 ∷ 2 ∷ 0 ∷ 32 ∷ 0 ∷ 0 ∷ 0 ∷ 0 ∷ 48 ∷ 0 ∷ []))) places
    ≡ yes ∷ yes ∷ yes ∷ yes ∷ no ∷ no ∷ yes ∷ no ∷ no ∷ no ∷ no ∷ yes ∷ yes ∷ yes ∷ yes ∷ yes ∷ yes ∷ []
unfolding mask_of
four_attributes = refl

-- of an instance that isn't there nothing is returned, and everything is compared
none_returned : map (is_compared true (asks Get 171 (0x40 ∷ 0 ∷ 0 ∷ 0 ∷ []) (5 ∷ replicate 11 0))) (3 ∷ 4 ∷ []) ≡ yes ∷ yes ∷ []
unfolding mask_of
none_returned = refl

-- the last value may end where the values do: attributes 3 to 8 of class 266, of which 5 and 6 are read only
interwork : map (is_compared true (asks Get 266 (0x3f ∷ 0 ∷ 0 ∷ 0 ∷ []) (0 ∷ 0x3f ∷ replicate 10 0))) places
    ≡ yes ∷ yes ∷ yes ∷ yes ∷ yes ∷ yes ∷ yes ∷ no ∷ no ∷ yes ∷ yes ∷ yes ∷ yes ∷ yes ∷ yes ∷ yes ∷ yes ∷ []
unfolding mask_of
interwork = refl

-- of a Get next that reads the table nothing is compared, of one that names another attribute everything
read_table : map (is_compared true (asks GetNext 171 (4 ∷ 0 ∷ 0 ∷ 0 ∷ []) (replicate 12 0))) (0 ∷ 1 ∷ 31 ∷ []) ≡ no ∷ no ∷ no ∷ []
unfolding mask_of
read_table = refl

no_table : map (is_compared true (asks GetNext 171 (8 ∷ 0 ∷ 0 ∷ 0 ∷ []) (3 ∷ replicate 11 0))) (0 ∷ 1 ∷ 31 ∷ []) ≡ yes ∷ yes ∷ yes ∷ []
unfolding mask_of
no_table = refl

no_table_class : map (is_compared true (asks GetNext 130 (4 ∷ 0 ∷ 0 ∷ 0 ∷ []) (3 ∷ replicate 11 0))) (0 ∷ 1 ∷ 31 ∷ []) ≡ yes ∷ yes ∷ yes ∷ []
unfolding mask_of
no_table_class = refl

-- another class, and an upload, aren't looked at; a MIB reset is
others : map (λ w. is_compared true w 0) (asks Get 2 [] [] ∷ asks Create 45 [] [] ∷ asks MibUpload 2 [] [] ∷ asks MibReset 2 [] [] ∷ asks Create 130 [] [] ∷ [])
    ≡ no ∷ no ∷ no ∷ yes ∷ yes ∷ []
unfolding mask_of
others = refl

-- everything is compared of a unit that isn't said to be modelled only
all_of_it : map (is_compared false (asks Get 171 (0x40 ∷ 0 ∷ 0 ∷ 0 ∷ []) (0 ∷ 0x40 ∷ replicate 10 0))) (3 ∷ 4 ∷ []) ≡ yes ∷ yes ∷ []
all_of_it = refl
