-- Markup that goes on, and shapes one after another.
use Rattle.std.proofs.Common.{◌≡◌, ℕ, ◌+◌, ◌<◌, List, [], ◌∷◌, ◌++◌, length, get_or, take, refl, sym, ap, ◌∙◌, append_assoc, string_bytes}
use Rattle.std.proofs.lemmas.List.{append-nil, nil_from_length, take_more}
use Rattle.std.proofs.lemmas.List.Concat.{flat_map-append, flat_map-cons}
use Rattle.std.proofs.lemmas.Str.{chars-nil, chars_past_char}
use Rattle.std.specs.Prelude.{codes}
use Rattle.std.specs.Char.{encode_utf8}
use Rattle.std.specs.List.{flat_map}
use Rattle.std.specs.Str.{chars, IsUtf8}
use Rattle.ael_picture.specs.declared.class.Class.TheVariants as class
use Rattle.ael_picture.specs.declared.shape.Shape.{Shape}
use Rattle.ael_picture.specs.declared.shape.Shape.TheVariants as shape
use Rattle.ael_picture.specs.Markup.{Attribute, Content, Done, Text, Empty, Full, attribute_text, escaped, markup}
use Rattle.ael_picture.specs.Shapes.{all_drawn, box_attributes, class_attribute, curve_path, drawn, label_attributes, switch_attributes, title_element}

-- ---- one more character

pub text_more : (start before now yielded : List ℕ) (c : ℕ) → before ≡ start ++ flat_map escaped yielded → now ≡ before ++ escaped c → now ≡ start ++ flat_map escaped (yielded ++ c ∷ [])
text_more start before now yielded c e f =
    let last : flat_map escaped (c ∷ []) ≡ escaped c = flat_map-cons escaped c [] ∙ append-nil (escaped c) in
    f ∙ ap (λ (xs : List ℕ). xs ++ escaped c) e ∙ append_assoc start (flat_map escaped yielded) (escaped c) ∙ ap (λ (xs : List ℕ). start ++ (flat_map escaped yielded ++ xs)) (sym last)
    ∙ ap (λ (xs : List ℕ). start ++ xs) (sym (flat_map-append escaped yielded (c ∷ [])))

pub chars_left : (text yielded rest after : List ℕ) (c : ℕ) → IsUtf8 rest → rest ≡ encode_utf8 c ++ after → chars text ≡ yielded ++ chars rest → chars text ≡ (yielded ++ c ∷ []) ++ chars after
chars_left text yielded rest after c u e left = left ∙ ap (λ (xs : List ℕ). yielded ++ xs) (chars_past_char rest after c u e) ∙ sym (append_assoc yielded (c ∷ []) (chars after))

-- all characters
pub text_done : (start now text yielded rest : List ℕ) → length rest ≡ 0 → chars text ≡ yielded ++ chars rest → now ≡ start ++ flat_map escaped yielded → now ≡ start ++ flat_map escaped (chars text)
text_done start now text yielded rest none left e =
    let all : chars text ≡ yielded = left ∙ ap (λ (xs : List ℕ). yielded ++ chars xs) (nil_from_length rest none) ∙ ap (λ (xs : List ℕ). yielded ++ xs) chars-nil ∙ append-nil yielded in
    e ∙ ap (λ (xs : List ℕ). start ++ flat_map escaped xs) (sym all)

-- ---- one more shape

empty_more : (name : List ℕ) (attributes : List Attribute) (more : Content) → markup (Empty name attributes more) ≡ markup (Empty name attributes Done) ++ markup more
empty_more name attributes more =
    let a = flat_map attribute_text attributes in
    sym (ap (λ (xs : List ℕ). 60 ∷ xs) (append_assoc name (a ++ 47 ∷ 62 ∷ []) (markup more) ∙ ap (λ (xs : List ℕ). name ++ xs) (append_assoc a (47 ∷ 62 ∷ []) (markup more))))

full_more : (name : List ℕ) (attributes : List Attribute) (inside more : Content) → markup (Full name attributes inside more) ≡ markup (Full name attributes inside Done) ++ markup more
full_more name attributes inside more =
    let a = flat_map attribute_text attributes in
    let end = 60 ∷ 47 ∷ (name ++ 62 ∷ []) in
    sym (ap (λ (xs : List ℕ). 60 ∷ xs)
    (append_assoc name (a ++ 62 ∷ (markup inside ++ end)) (markup more) ∙ ap (λ (xs : List ℕ). name ++ xs)
    (append_assoc a (62 ∷ (markup inside ++ end)) (markup more) ∙ ap (λ (xs : List ℕ). a ++ 62 ∷ xs)
    (append_assoc (markup inside) end (markup more) ∙ ap (λ (xs : List ℕ). markup inside ++ 60 ∷ 47 ∷ xs) (append_assoc name (62 ∷ []) (markup more))))))

pub shape_more : (s : Shape) (more : Content) → markup (drawn s more) ≡ markup (drawn s Done) ++ markup more
shape_more (shape.Box x y width height class) more = empty_more (codes "rect") (box_attributes x y width height class) more
shape_more (shape.TitledBox x y width height class title) more = full_more (codes "rect") (box_attributes x y width height class) (title_element (string_bytes title) Done) more
shape_more (shape.Curve x y bend_x bend_y to_x to_y class) more =
    empty_more (codes "path") (record { name = codes "d"; value = curve_path x y bend_x bend_y to_x to_y } ∷ class_attribute class ∷ []) more
shape_more (shape.Label x y class text) more = full_more (codes "text") (label_attributes x y class) (Text (chars (string_bytes text)) Done) more
shape_more (shape.TitledLabel x y class text title) more =
    full_more (codes "text") (label_attributes x y class) (title_element (string_bytes title) (Text (chars (string_bytes text)) Done)) more
shape_more (shape.Switch x y choice text) more =
    full_more (codes "a") (switch_attributes choice) (Full (codes "text") (label_attributes x y class.Plain) (Text (chars (string_bytes text)) Done) Done) more

shapes_push : (shapes : List Shape) (s : Shape) → markup (all_drawn (shapes ++ s ∷ [])) ≡ markup (all_drawn shapes) ++ markup (drawn s Done)
shapes_push [] s = refl
shapes_push (x ∷ shapes) s =
    shape_more x (all_drawn (shapes ++ s ∷ [])) ∙ ap (λ (xs : List ℕ). markup (drawn x Done) ++ xs) (shapes_push shapes s) ∙ sym (append_assoc (markup (drawn x Done)) (markup (all_drawn shapes)) (markup (drawn s Done)))
    ∙ ap (λ (xs : List ℕ). xs ++ markup (drawn s Done)) (sym (shape_more x (all_drawn shapes)))

pub shapes_more : (start before now : List ℕ) (shapes : List Shape) (i : ℕ) (s : Shape) → i < length shapes → s ≡ get_or shapes i s → before ≡ start ++ markup (all_drawn (take i shapes)) → now ≡ before ++ markup (drawn s Done) → now ≡ start ++ markup (all_drawn (take (i + 1) shapes))
shapes_more start before now shapes i s lt is e f =
    let grown : take (i + 1) shapes ≡ take i shapes ++ s ∷ [] = take_more shapes i s lt ∙ ap (λ (x : Shape). take i shapes ++ x ∷ []) (sym is) in
    f ∙ ap (λ (xs : List ℕ). xs ++ markup (drawn s Done)) e ∙ append_assoc start (markup (all_drawn (take i shapes))) (markup (drawn s Done))
    ∙ ap (λ (xs : List ℕ). start ++ xs) (sym (shapes_push (take i shapes) s)) ∙ ap (λ (xs : List Shape). start ++ markup (all_drawn xs)) (sym grown)
