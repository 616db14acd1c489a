-- Parts whose words stand in lines one after the other, and the rest that is cut next.
use Rattle.std.proofs.Common.{◌≡◌, List, [], ◌∷◌, ◌++◌, flat_map, sym, ◌∙◌, subst, append-nil}
use Rattle.concordance_text.specs.declared.part.Part.{Part}
use Rattle.concordance_text.specs.Parts.{AreInEarlierLines, AreInLineOrder, mentions_of_part}
use Rattle.concordance_text.specs.Rows.{IsElementOf}
use Rattle.concordance_text.proofs.Rests.{flat_map_last, same_elements}
use Rattle.concordance_text.proofs.WordRuns.{in_left}

pub in_order_once_more : (ps : List Part) (rest p q : Part) → mentions_of_part p ++ mentions_of_part q ≡ mentions_of_part rest → AreInEarlierLines (mentions_of_part p) (mentions_of_part q) → AreInLineOrder (ps ++ rest ∷ [])
    → AreInLineOrder ((ps ++ p ∷ []) ++ q ∷ [])
in_order_once_more [] rest p q e before order = (subst (AreInEarlierLines (mentions_of_part p)) (sym (append-nil (mentions_of_part q))) before, (λ m n h k. absurd k, tt))
in_order_once_more (x ∷ ps) rest p q e before order =
    (subst (AreInEarlierLines (mentions_of_part x)) (sym (same_elements mentions_of_part ps rest p q e)) order.0, in_order_once_more ps rest p q e before order.1)

pub in_order_without_rest : (ps : List Part) (rest : Part) → AreInLineOrder (ps ++ rest ∷ []) → AreInLineOrder ps
in_order_without_rest [] rest order = tt
in_order_without_rest (p ∷ ps) rest order = (
  λ m n h k.
      order.0 m n h (subst (IsElementOf n) (sym (flat_map_last mentions_of_part ps rest []) ∙ append-nil _) (in_left n (flat_map mentions_of_part ps) _ k)),
  in_order_without_rest ps rest order.1,
)
