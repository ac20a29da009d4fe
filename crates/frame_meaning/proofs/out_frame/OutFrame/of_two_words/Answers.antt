use Rattle.std.proofs.Common.{◌≡◌, ℕ, ◌≤◌, List, ap, map, take, sym, ◌∙◌}
use Rattle.std.proofs.lemmas.List.{take-map, take-take}
use Rattle.tag_view.specs.Tag.{TagFields}
use Rattle.tag_view.specs.Frame.{with_tags}
use Rattle.tag_view.specs.Word.{tag_of}
use Rattle.frame_meaning.proofs.out_frame.OutFrame.of_two_words.Goals as goal

-- of lists that agree in two places, as many as two agree
few : (count : ℕ) (tags : List TagFields) (words : List ℕ) → count ≤ 2 → take 2 tags ≡ map tag_of (take 2 words)
    → take count tags ≡ map tag_of (take count words)
few count tags words two same =
    sym (take-take count 2 tags two)
    ∙ ap (λ (ts : List TagFields). take count ts) same
    ∙ take-map tag_of count (take 2 words)
    ∙ ap (λ (ws : List ℕ). map tag_of ws) (take-take count 2 words two)

pub returns : goal.returns
returns c =
    let tags = few c.args.count c.two_tags_of.result c.args.words c.requires.two c.two_tags_of.ensures in
    let bytes = c.args.bytes.now in
    ap (λ (n : ℕ). with_tags bytes n (take c.args.count c.two_tags_of.result)) c.from.ensures
    ∙ ap (λ (ts : List TagFields). with_tags bytes c.args.received ts) tags
