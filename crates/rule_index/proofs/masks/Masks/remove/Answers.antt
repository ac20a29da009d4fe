use Rattle.std.proofs.Common.{ℕ, List, ◌++◌, subst, sym}
use Rattle.rule_index.specs.declared.row.Row.{Row}
use Rattle.rule_index.specs.Filters.{inner_in, outer_in}
use Rattle.rule_index.specs.Kinds.{AreTags, AreTypes}
use Rattle.rule_index.proofs.Indexed.{tags-remove}
use Rattle.rule_index.proofs.masks.Masks.remove.Goals as goal

pub returns : goal.returns
returns c = λ before after row at is.
    let self = c.args.self.now in
    let tags = c.remove.ensures.tags before after row at is.tags in
    let types = c.remove.ensures.types before after row at is.types in
    let by_tags : List ℕ → Type 0 = λ masks. AreTags masks (before ++ after) in
    let by_types : List ℕ → Type 0 = λ masks. AreTypes masks (before ++ after) in
    record {
      tags = subst by_tags (sym c.finish.ensures.tags) tags;
      types = subst by_types (sym c.finish.ensures.types) types;
      kinds = c.finish.ensures.kinds (before ++ after) tags types;
      outer = tags-remove (λ (row : Row). outer_in row.filter) self.outer c.remove-2.new.self before row after c.args.place c.remove-2.ensures at is.outer;
      inner = tags-remove (λ (row : Row). inner_in row.filter) self.inner c.remove-3.new.self before row after c.args.place c.remove-3.ensures at is.inner;
    }
