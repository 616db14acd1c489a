use Rattle.std.proofs.Common.{ℕ, List, ◌++◌, ◌∙◌, ap, append_assoc, codes}
use Rattle.std.specs.List.{flat_map}
use Rattle.std.specs.Str.{chars}
use Rattle.ael_picture.specs.declared.style.TheConstants.{STYLE}
use Rattle.ael_picture.specs.Markup.{escaped, markup}
use Rattle.ael_picture.specs.Shapes.{all_drawn}
use Rattle.ael_picture.proofs.svg.written.Goals as goal

pub returns : goal.returns
returns c =
    let marker : List ℕ = codes "</style><marker id=\"arrow\" markerWidth=\"7\" markerHeight=\"6\" refX=\"6\" refY=\"3\" orient=\"auto\"><path d=\"M0 0L7 3L0 6\"/></marker>" in
    c.in_ok-push_str-2.ensures.bytes ∙ ap (λ (s : List ℕ). s ++ codes "</svg>") (c.in_ok-push_shapes.ensures
    ∙ ap (λ (s : List ℕ). s ++ markup (all_drawn c.args.shapes.now)) (c.in_ok-push_str.ensures.bytes
    ∙ ap (λ (s : List ℕ). s ++ marker) (c.in_ok-push_text.ensures
    ∙ ap (λ (s : List ℕ). s ++ flat_map escaped (chars STYLE.now)) c.in_ok-out.ensures.ok)))
    ∙ simp append_assoc
