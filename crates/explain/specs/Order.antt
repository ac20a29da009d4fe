-- In which order the entries of a table are tried for a frame (ITU-T G.988, clause 9.3.13).
use Rattle.std.specs.Prelude.{◌≡◌, ℕ, ◌+◌, Bool, List, [], ◌∷◌, ◌++◌, Option, if◌then◌else◌, ◌==◌, find}
use Rattle.std.specs.List.{position}
use Rattle.vlan_rule.specs.declared.rank.Rank.{Rank}
use Rattle.vlan_rule.specs.declared.rank.Rank.TheVariants.{Ordinary, Default, Predefined}
use Rattle.vlan_rule.specs.Meaning.{rank_number, rank_of}
use Rattle.vlan_rule.specs.Choice.{choice, entry_at}

-- the places of the entries of a rank, where the first entry stands at place i
abbrev pub places_from : Rank → ℕ → List (List ℕ) → List ℕ
places_from rank i [] = []
places_from rank i (e ∷ rest) =
    if rank_number (rank_of e) == rank_number rank then i ∷ places_from rank (i + 1) rest else places_from rank (i + 1) rest

abbrev pub places_of : Rank → List (List ℕ) → List ℕ
places_of rank entries = places_from rank 0 entries

-- the places of all entries: by rank, and those of one rank by place
unfoldable pub tried_order : List (List ℕ) → List ℕ
tried_order entries = places_of Ordinary entries ++ (places_of Default entries ++ places_of Predefined entries)

-- the number of the entry at a place: how many are tried before it
abbrev pub number_of : List (List ℕ) → ℕ → Option ℕ
number_of entries place = position (λ tried. tried == place) (tried_order entries)

-- the entry that is used for a frame is the first of them that matches it, as it is for every other test
pub record IsTriedInOrder : Type 0 where
  pub first : (test : List ℕ → Bool) (entries : List (List ℕ)) → choice test entries ≡ find (λ i. test (entry_at entries i)) (tried_order entries)
