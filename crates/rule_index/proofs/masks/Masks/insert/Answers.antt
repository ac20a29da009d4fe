use Rattle.std.proofs.Common.{ℕ, List, ◌∷◌, ◌++◌, subst, sym}
use Rattle.rule_index.specs.declared.row.Row.{Row}
use Rattle.rule_index.specs.Filters.{inner_in, outer_in}
use Rattle.rule_index.specs.Kinds.{AreTags, AreTypes}
use Rattle.rule_index.proofs.Indexed.{tags-insert}
use Rattle.rule_index.proofs.masks.Masks.insert.Goals as goal

pub returns : goal.returns
returns c = λ before after between is.
    let self = c.args.self.now in
    let row = c.args.row.now in
    let tags = c.insert.ensures.tags before after between is.tags in
    let types = c.insert.ensures.types before after between is.types in
    let by_tags : List ℕ → Type 0 = λ masks. AreTags masks (before ++ row ∷ after) in
    let by_types : List ℕ → Type 0 = λ masks. AreTypes masks (before ++ row ∷ after) in
    record {
      tags = subst by_tags (sym c.finish.ensures.tags) tags;
      types = subst by_types (sym c.finish.ensures.types) types;
      kinds = c.finish.ensures.kinds (before ++ row ∷ after) tags types;
      outer = tags-insert (λ (row : Row). outer_in row.filter) self.outer c.insert-2.new.self before row after c.args.place c.outer.result c.insert-2.ensures c.outer.ensures between is.outer;
      inner = tags-insert (λ (row : Row). inner_in row.filter) self.inner c.insert-3.new.self before row after c.args.place c.inner.result c.insert-3.ensures c.inner.ensures between is.inner;
    }
