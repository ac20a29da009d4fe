use Rattle.std.proofs.Common.{◌≡◌, ◌<◌, ◌^◌, length, get_or, ap, sym, ◌∙◌, arith}
use Rattle.rule_index.specs.Vids.{class_at}
use Rattle.std.proofs.lemmas.List.{get_or_default}
use Rattle.rule_index.proofs.Naming.{naming-any, naming-exact, naming-never}
use Rattle.rule_index.proofs.vid_masks.VidMasks.add.Goals as goal

pub returns-in-Any-clause-naming : goal.returns-in-Any-clause-naming
returns-in-Any-clause-naming c = λ filters len is.
    let bit : c.bit.result ≡ 2 ^ length filters = c.bit.ensures ∙ ap (λ n. 2 ^ n) (sym len) in
    rw (bit, c.in-Any.is) (naming-any c.args.self.now.class.items c.args.self.now.masks.items c.args.self.now.any filters is)

pub returns-in-Exactly-clause-naming : goal.returns-in-Exactly-clause-naming
returns-in-Exactly-clause-naming c = λ filters len is.
    let bit : c.bit-in-Exactly.result ≡ 2 ^ length filters = c.bit-in-Exactly.ensures ∙ ap (λ n. 2 ^ n) (sym len) in
    let self = c.class_of-class.new.self in
    let class : c.class_of-class.result ≡ class_at self.class.items c.in-Exactly.vid = c.class_of-class.ensures.class.2 in
    let old : c.index_mut.result.now ≡ get_or self.masks.items c.class_of-class.result 0 = c.index_mut.ensures.value ∙ get_or_default self.masks.items c.class_of-class.result c.index_mut.result.now 0 (omega (arith, c.class_of-class.ensures.class.1)) in
    let some : 0 < class_at self.class.items c.in-Exactly.vid = omega (arith, class, c.class_of-class.ensures.class.0) in
    let room : class_at self.class.items c.in-Exactly.vid < length self.masks.items = omega (arith, class, c.class_of-class.ensures.class.1) in
    rw (bit, c.in-Exactly.is, old, class) (naming-exact self.class.items self.masks.items self.any c.in-Exactly.vid filters c.if-vid-lt4096.true some room (record { names = c.class_of-class.ensures.classes _ _ is.names; any_mask = c.class_of-class.ensures.any ∙ is.any_mask }))

pub returns-else-vid-lt4096-clause-naming : goal.returns-else-vid-lt4096-clause-naming
returns-else-vid-lt4096-clause-naming c = λ filters len is.
    rw c.in-Exactly.is (naming-never c.args.self.now.class.items c.args.self.now.masks.items c.args.self.now.any c.in-Exactly.vid filters c.if-vid-lt4096.false is)
