-- Worked examples, computed.
use Rattle.std.proofs.Common.{◌≡◌, ℕ, ◌++◌, List, [], ◌∷◌, Option, Some, refl}
use Rattle.tag_view.specs.Tag.{TagFields}
use Rattle.vlan_rule.specs.Entry.{entry_of, key_of, kind_of, number_of, value_of}
use Rattle.vlan_rule.specs.Table.{predefined}
use Rattle.vlan_rule.specs.Choice.{choice, matches}
use Rattle.vlan_rule.specs.Meaning.{ethertype_of, filter_of, rank_of}
use Rattle.tag_view.specs.Word.{tag_of}
use Rattle.rule_index.specs.Masks.{mask_of}
use Rattle.rule_index.specs.Order.{order_of, rows_from, rows_of}
use Rattle.rule_index.specs.Readers.{has_inner_vid, has_tags, mask_in_order}

-- the predefined entries, a default that drops frames with one tag, and an entry for VID 100
entries : List (List ℕ)
entries = predefined ++ entry_of 0xf8000000e8000000 0xc00f0000000f0000 ∷ entry_of 0xf800000080320000 0x400f000000080644 ∷ []

-- the one for VID 100 has rank 0, the default rank 1, and the predefined entries come last
the_order : order_of entries ≡ 4 ∷ 3 ∷ 0 ∷ 1 ∷ 2 ∷ []
unfolding entries rows_of rows_from rank_of key_of kind_of value_of number_of
the_order = refl

the_masks : List ℕ
the_masks =
    mask_in_order (has_tags 0) entries ∷ mask_in_order (has_tags 1) entries ∷ mask_in_order (has_tags 2) entries
    ∷ mask_in_order (has_inner_vid 100) entries ∷ mask_in_order (has_inner_vid 101) entries ∷ []

what_masks_are : the_masks ≡ 0x04 ∷ 0x0b ∷ 0x10 ∷ 0x1f ∷ 0x1e ∷ []
unfolding the_masks entries mask_of rows_of rows_from rank_of key_of kind_of value_of number_of
what_masks_are = refl

-- the place that is found for an IPv4 frame with these tags, where tags of type 0x8100 come in
found : List ℕ → Option ℕ
found words = choice (matches 0x8100 (tags words) 0x0800) entries
  where
    tags : List ℕ → List TagFields
    tags [] = []
    tags (word ∷ rest) = tag_of word ∷ tags rest

what_is_found : found (0x8100a064 ∷ []) ∷ found (0x8100a065 ∷ []) ∷ found [] ∷ found (0x88a80064 ∷ 0x810000c8 ∷ []) ∷ []
    ≡ Some 4 ∷ Some 3 ∷ Some 0 ∷ Some 2 ∷ []
unfolding found entries choice matches filter_of ethertype_of rank_of key_of kind_of value_of number_of
what_is_found = refl
