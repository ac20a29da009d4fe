-- No more is taken than there is.
use Rattle.std.proofs.Common.{◌++◌, ℕ, List, take, ap, ◌∙◌}
use Rattle.std.proofs.lemmas.List.{take_min}
use Rattle.capture_pieces.specs.Joined.{longest}
use Rattle.capture_pieces.proofs.joining.front_of.Goals as goal

pub returns : goal.returns
returns c =
    c.in_ok-extend_from_slice.ensures.items ∙ ap (λ (l : List ℕ). l ++ c.split_at.result.0.now) c.new-front.ensures.items
    ∙ c.split_at.ensures.front ∙ ap (λ n. take n c.args.bytes.now) c.min.ensures ∙ take_min longest c.args.bytes.now
