use Rattle.std.proofs.Common.{◌≢◌, ◌==◌, ◌++◌, List, ℕ, None, arith, subst}
use Rattle.std.specs.Prelude.{Decides}
use Rattle.std.specs.Io.{StartsWith}
use Rattle.std.proofs.lemmas.Bool.Decides.{Decides-eqb}
use Rattle.std.proofs.lemmas.Slice.Eq.{strip_prefix_is}
use Rattle.tag_view.specs.Tag.{tag_bytes}
use Rattle.bench_sight.proofs.Prefixes.{Decides-starts}
use Rattle.bench_sight.proofs.Tags.{last_tag}
use Rattle.bench_sight.proofs.head.tags_begin.Goals as goal

pub returns-in_default : goal.returns-in_default
returns-in_default c =
    let tag = c.tag-item.result in
    let rest = c.loop-tag.rest.now in
    let none : (behind : List ℕ) → rest ≢ tag_bytes tag ++ behind =
    subst (λ (p : List ℕ). (behind : List ℕ) → rest ≢ p ++ behind) c.bytes.ensures
    (strip_prefix_is {A = ℕ} {E = ◌==◌} Decides-eqb rest c.bytes.result None c.in_default.ensures.cases) in
    let starts : Decides c.starts_with.result (StartsWith (tag_bytes tag) rest) =
    subst (λ (p : List ℕ). Decides c.starts_with.result (StartsWith p rest)) c.bytes-in_default.ensures
    (Decides-starts c.bytes-in_default.result rest c.starts_with.result c.starts_with.ensures.value) in
    last_tag c.args.tags.now c.loop-tag.tag-index tag c.args.bytes.now rest c.starts_with.result (omega arith) c.tag-item.is c.loop-tag.invariant none starts
