-- An index stays that of its table where one entry is added or deleted.
use Rattle.std.proofs.Common.{◌≡◌, ◌==◌, ℕ, ◌+◌, ◌<◌, ◌≤◌, inl, inr, List, [], ◌∷◌, ◌++◌, Some, length, map, take, drop, ap, ap₂, sym, ◌∙◌, subst, arith}
use Rattle.std.specs.Prelude.{slice_get}
use Rattle.std.specs.List.{insert, remove}
use Rattle.std.proofs.lemmas.List.{ext_get_or, length-drop, length-map, length-take-le, map-append, take-append-drop, take_all, take_more}
use Rattle.std.proofs.lemmas.List.Edits.{get_or-remove_above, get_or-remove_below, length-insert, length-remove}
use Rattle.std.proofs.lemmas.Bool.{cases_lt}
use Rattle.std.proofs.lemmas.Option.{get_or_from_slice_get}
use Rattle.vlan_rule.specs.declared.filter.TagFilter.{TagFilter}
use Rattle.vlan_rule.specs.Choice.{entry_at}
use Rattle.vlan_rule.specs.declared.rank.Rank.{Rank}
use Rattle.vlan_rule.specs.Meaning.{ethertype_of, filter_of, rank_number, rank_of}
use Rattle.rule_index.specs.declared.row.Row.{Row}
use Rattle.rule_index.specs.declared.masks.Masks.{Masks}
use Rattle.rule_index.specs.declared.tag_masks.TagMasks.{TagMasks}
use Rattle.rule_index.specs.Built.{IsBuilt, IsIndexOf}
use Rattle.rule_index.specs.Filters.{inner_in, outer_in, tags_in, type_key}
use Rattle.rule_index.specs.Kinds.{admits_kind}
use Rattle.rule_index.specs.Masks.{IsBetween}
use Rattle.rule_index.specs.Order.{lowered, order_of, raised, row_of, rows_of, up_to_rank}
use Rattle.rule_index.specs.TagMasks.{IsTagIndex}
use Rattle.rule_index.proofs.Following.{same-take}
use Rattle.rule_index.proofs.Found.{no_more_rows}
use Rattle.rule_index.proofs.Inserted.{added, deleted, kept-rows, left-rows, map-map, IsRowMore}
use Rattle.rule_index.proofs.MaskLaws.{mask-map}
use Rattle.rule_index.proofs.Moving.{between-map}

-- ---- the masks of tags, by rows

pub tags-insert : (f : Row → TagFilter) (old new : TagMasks) (before : List Row) (row : Row) (after : List Row) (place : ℕ) (filter : TagFilter)
    → ((before after : List TagFilter) → IsBetween before after place → IsTagIndex old (before ++ after) → IsTagIndex new (before ++ filter ∷ after))
    → filter ≡ f row → IsBetween before after place → IsTagIndex old (map f (before ++ after)) → IsTagIndex new (map f (before ++ row ∷ after))
tags-insert f old new before row after place filter moved is between index =
    let O : List TagFilter → Type 0 = λ fs. IsTagIndex old fs in
    let N : List TagFilter → Type 0 = λ fs. IsTagIndex new fs in
    let F : TagFilter → Type 0 = λ x. IsTagIndex new (map f before ++ x ∷ map f after) in
    subst N (sym (map-append f before (row ∷ after)))
    (subst F is (moved (map f before) (map f after) (between-map f before after place between) (subst O (map-append f before after) index)))

pub tags-remove : (f : Row → TagFilter) (old new : TagMasks) (before : List Row) (row : Row) (after : List Row) (place : ℕ)
    → ((before after : List TagFilter) (filter : TagFilter) → length before ≡ place → IsTagIndex old (before ++ filter ∷ after) → IsTagIndex new (before ++ after))
    → length before ≡ place → IsTagIndex old (map f (before ++ row ∷ after)) → IsTagIndex new (map f (before ++ after))
tags-remove f old new before row after place moved at index =
    let O : List TagFilter → Type 0 = λ fs. IsTagIndex old fs in
    let N : List TagFilter → Type 0 = λ fs. IsTagIndex new fs in
    subst N (sym (map-append f before after))
    (moved (map f before) (map f after) (f row) (length-map before f ∙ at) (subst O (map-append f before (row ∷ after)) index))

-- ---- the places of rows don't count

pub built-raised : (masks : Masks) (place : ℕ) (rows : List Row) → IsBuilt masks (map (raised place) rows) → IsBuilt masks rows
built-raised masks place rows is =
    let O : List TagFilter → Type 0 = λ fs. IsTagIndex masks.outer fs in
    let I : List TagFilter → Type 0 = λ fs. IsTagIndex masks.inner fs in
    record {
      tags = λ k h. is.tags k h ∙ mask-map (λ (row : Row). tags_in row.filter == k) (raised place) rows;
      types = λ k h. is.types k h ∙ mask-map (λ (row : Row). type_key row.ethertype == k) (raised place) rows;
      kinds = λ k h. is.kinds k h ∙ mask-map (λ (row : Row). admits_kind k row) (raised place) rows;
      outer = subst O (map-map (λ (row : Row). outer_in row.filter) (raised place) rows) is.outer;
      inner = subst I (map-map (λ (row : Row). inner_in row.filter) (raised place) rows) is.inner;
    }

-- ---- an entry that was added

pub added-index : (entries : List (List ℕ)) (rows rows' : List Row) (masks masks' : Masks) (e : List ℕ) (number : ℕ) (row : Row)
    → IsIndexOf entries rows masks → length entries < 128 → number ≡ up_to_rank (rank_number (rank_of e)) entries → row ≡ row_of (length entries) e
    → rows' ≡ insert rows number row
    → ((before after : List Row) → IsBetween before after number → IsBuilt masks (before ++ after) → IsBuilt masks' (before ++ row ∷ after))
    → IsIndexOf (entries ++ e ∷ []) rows' masks'
added-index entries rows rows' masks masks' e number row is few is_number is_row made moved = record {
  in_order =
      made ∙ ap₂ (λ (rs : List Row) (n : ℕ). insert rs n row) is.in_order is_number
      ∙ ap₂ (λ (rs : List Row) (r : Row). insert rs (up_to_rank (rank_number (rank_of e)) entries) r) (sym (kept-rows entries)) is_row ∙ sym more.rows;
  few = omega (arith, ap (λ (rs : List Row). length rs) made, length-insert rows number row within, long, no_more_rows entries, few);
  built = subst B (sym made) (moved (take number rows) (drop number rows) between (subst O (sym (take-append-drop number rows)) is.built));
}
  where
    more : IsRowMore entries (entries ++ e ∷ []) (length entries) (up_to_rank (rank_number (rank_of e)) entries) e
    more = added entries e

    long : length rows ≡ length (rows_of entries)
    long = ap (λ (rs : List Row). length rs) is.in_order

    within : number ≤ length rows
    within = omega (arith, more.within, is_number, long)

    between : IsBetween (take number rows) (drop number rows) number
    between = record {
      at = length-take-le number rows within;
      room = omega (arith, within, length-take-le number rows within, length-drop number rows, long, no_more_rows entries, few);
    }

    B : List Row → Type 0
    B rs = IsBuilt masks' rs

    O : List Row → Type 0
    O rs = IsBuilt masks rs

-- ---- an entry that was deleted

pub deleted-index : (entries : List (List ℕ)) (rows rows' : List Row) (masks masks' : Masks) (place number : ℕ)
    → IsIndexOf entries rows masks → place < length entries → slice_get (order_of entries) number ≡ Some place
    → rows' ≡ map (λ row. lowered place row) (remove rows number)
    → ((before after : List Row) (row : Row) → length before ≡ number → IsBuilt masks (before ++ row ∷ after) → IsBuilt masks' (before ++ after))
    → IsIndexOf (remove entries place) rows' masks'
deleted-index entries rows rows' masks masks' place number is inside at made moved = record {
  in_order = in_order;
  few = omega (arith, ap (λ (rs : List Row). length rs) in_order, fewer, long, is.few);
  built = subst B (sym in_order) (built-raised masks' place (rows_of (remove entries place)) raised-built);
}
  where
    more : IsRowMore (remove entries place) entries place number (entry_at entries place)
    more = deleted entries place number inside at

    in_order : rows' ≡ rows_of (remove entries place)
    in_order = made ∙ ap (λ (rs : List Row). map (λ row. lowered place row) (remove rs number)) is.in_order ∙ left-rows (remove entries place) entries place number (entry_at entries place) more

    B : List Row → Type 0
    B rs = IsBuilt masks' rs

    O : List Row → Type 0
    O rs = IsBuilt masks rs

    within : number ≤ length (map (raised place) (rows_of (remove entries place)))
    within = omega (arith, more.within, length-map (rows_of (remove entries place)) (raised place))

    raised-built : IsBuilt masks' (map (raised place) (rows_of (remove entries place)))
    raised-built =
        subst B (take-append-drop number (map (raised place) (rows_of (remove entries place))))
        (moved (take number (map (raised place) (rows_of (remove entries place)))) (drop number (map (raised place) (rows_of (remove entries place)))) (row_of place (entry_at entries place))
        (length-take-le number (map (raised place) (rows_of (remove entries place))) within)
        (subst O (is.in_order ∙ more.rows) is.built))

    long : length rows ≡ length (rows_of entries)
    long = ap (λ (rs : List Row). length rs) is.in_order

    fewer : length (rows_of (remove entries place)) ≤ length (rows_of entries)
    fewer = omega (arith, ap (λ (rs : List Row). length rs) more.rows, length-insert (map (raised place) (rows_of (remove entries place))) number (row_of place (entry_at entries place)) within, length-map (rows_of (remove entries place)) (raised place))

-- ---- the entry that a table has next

pub record IsLast (entries table : List (List ℕ)) (place : ℕ) (e : List ℕ) : Type 0 where
  pub long : length entries ≡ place
  pub whole : take (place + 1) table ≡ entries ++ e ∷ []
  pub front : take place table ≡ entries
  pub there : entry_at table place ≡ e

pub last : (entries table : List (List ℕ)) (place : ℕ) (e : List ℕ) → length entries ≡ place → place < length table
    → ((k : ℕ) → k < length entries → entry_at entries k ≡ entry_at table k) → Some e ≡ slice_get table place → IsLast entries table place e
last entries table place e long more same held = record { long = long; whole = whole; front = front; there = there }
  where
    there : entry_at table place ≡ e
    there = get_or_from_slice_get table place e [] (sym held)

    front : take place table ≡ entries
    front =
        sym (same-take entries table place (omega (arith, long)) (omega (arith, more)) (λ k h. same k (omega (arith, h, long))))
        ∙ take_all place entries (omega (arith, long))

    whole : take (place + 1) table ≡ entries ++ e ∷ []
    whole =
        take_more table place [] more
        ∙ ap₂ (λ (es : List (List ℕ)) (x : List ℕ). es ++ x ∷ []) front there

pub number-is : (entries table : List (List ℕ)) (place number rank : ℕ) (e : List ℕ) (r : Rank) → IsLast entries table place e
    → number ≡ up_to_rank rank (take place table) → rank ≡ rank_number r → r ≡ rank_of (entry_at table place) → number ≡ up_to_rank (rank_number (rank_of e)) entries
number-is entries table place number rank e r is counted is_rank ranked =
    counted ∙ ap₂ (λ (n : ℕ) (es : List (List ℕ)). up_to_rank n es) (is_rank ∙ ap rank_number (ranked ∙ ap rank_of is.there)) is.front

pub row-is : (entries table : List (List ℕ)) (place : ℕ) (e : List ℕ) (row : Row) → IsLast entries table place e
    → row.place ≡ place → row.filter ≡ filter_of (entry_at table place) → row.ethertype ≡ ethertype_of (entry_at table place) → row ≡ row_of (length entries) e
row-is entries table place e row is placed filtered typed =
    (λ i. record { place = (placed ∙ sym is.long) i; filter = (filtered ∙ ap filter_of is.there) i; ethertype = (typed ∙ ap ethertype_of is.there) i })

-- ---- a table without one of the entries

pub without-alone : (xs ys : List (List ℕ)) (place : ℕ) → length xs ≡ length ys + 1 → place ≤ length ys
    → ((k : ℕ) → k < place → entry_at xs k ≡ entry_at ys k) → ((k : ℕ) → place ≤ k → k < length ys → entry_at xs (k + 1) ≡ entry_at ys k)
    → ys ≡ remove xs place
without-alone xs ys place long within before behind =
    ext_get_or [] ys (remove xs place) (omega (arith, long, length-remove xs place inside)) (λ k h. by_case k h)
  where
    inside : place < length xs
    inside = omega (arith, long, within)

    by_case : (k : ℕ) → k < length ys → entry_at ys k ≡ entry_at (remove xs place) k
    by_case k h = elim (cases_lt k place) [
      | inl below ↦ sym (before k below) ∙ sym (get_or-remove_below xs place [] k below inside)
      | inr above ↦ sym (behind k above h) ∙ sym (get_or-remove_above xs place [] k above inside)
    ]
