-- A picture has nothing in its tags that would end them.
use Rattle.std.proofs.Common.{◌≡◌, ℕ, zero, suc, ◌/◌, ◌%◌, ◌<◌, true, false, cond, List, [], ◌∷◌, ◌++◌, decimal, refl, arith, ◌==◌}
use Rattle.std.proofs.lemmas.Bool.Decides.{nat_tests}
use Rattle.std.proofs.lemmas.List.Folds.{list_all-append}
use Rattle.std.specs.Fmt.{digits, digits_onto, digit_glyph}
use Rattle.std.specs.List.{list_all, AllByRecursion}
use Rattle.std.specs.Prelude.{codes}
use Rattle.ael_picture.specs.declared.choice.Choice.{Choice}
use Rattle.ael_picture.specs.declared.choice.Choice.TheVariants as choice
use Rattle.ael_picture.specs.declared.class.Class.{Class}
use Rattle.ael_picture.specs.declared.class.Class.TheVariants as class
use Rattle.ael_picture.specs.declared.shape.Shape.{Shape}
use Rattle.ael_picture.specs.declared.shape.Shape.TheVariants as shape
use Rattle.ael_picture.specs.Markup.{Content, IsAttribute, IsClean, IsMarkup, is_in_value, markup}
use Rattle.ael_picture.specs.Shapes.{all_drawn, arrow, box_attributes, choice_name, class_name, curve_path, drawn, label_attributes, picture, point, switch_attributes}

glyph_plain : (d : ℕ) → d < 10 → is_in_value (digit_glyph false d) ≡ true
glyph_plain d lt = grind (arith, nat_tests)

onto_plain : (k n : ℕ) (acc : List ℕ) → list_all is_in_value acc ≡ true → list_all is_in_value (digits_onto k 10 false n acc) ≡ true
onto_plain zero n acc h = h
onto_plain (suc k) n acc h =
    let one : list_all is_in_value (digit_glyph false (n % 10) ∷ acc) ≡ true = rw (glyph_plain (n % 10) (omega arith), h) refl in
    elim (n / 10 == 0) as (λ b. list_all is_in_value (cond b (digit_glyph false (n % 10) ∷ acc) (digits_onto k 10 false (n / 10) (digit_glyph false (n % 10) ∷ acc))) ≡ true) [
      | true ↦ one
      | false ↦ onto_plain k (n / 10) (digit_glyph false (n % 10) ∷ acc) one
    ]

decimal_plain : (n : ℕ) → list_all is_in_value (decimal n) ≡ true
unfolding digits
decimal_plain n = onto_plain 64 n [] refl

class_plain : (c : Class) → list_all is_in_value (class_name c) ≡ true
class_plain class.Free = refl
class_plain _ = refl

choice_plain : (c : Choice) → list_all is_in_value (choice_name c) ≡ true
choice_plain choice.All = refl
choice_plain _ = refl

both_plain : (xs ys : List ℕ) → list_all is_in_value xs ≡ true → list_all is_in_value ys ≡ true → list_all is_in_value (xs ++ ys) ≡ true
both_plain xs ys h k = rw (list_all-append is_in_value xs ys, h, k) refl

point_plain : (x y : ℕ) → list_all is_in_value (point x y) ≡ true
point_plain x y = both_plain (decimal x) (codes " " ++ decimal y) (decimal_plain x) (decimal_plain y)

curve_plain : (x y bend_x bend_y to_x to_y : ℕ) → list_all is_in_value (curve_path x y bend_x bend_y to_x to_y) ≡ true
curve_plain x y bend_x bend_y to_x to_y =
    both_plain (point x y) (codes "Q" ++ (point bend_x bend_y ++ (codes " " ++ point to_x to_y))) (point_plain x y)
    (both_plain (point bend_x bend_y) (codes " " ++ point to_x to_y) (point_plain bend_x bend_y) (point_plain to_x to_y))

box_clean : (x y width height : ℕ) (class : Class) → AllByRecursion IsAttribute (box_attributes x y width height class)
box_clean x y width height class = ((refl, decimal_plain x), ((refl, decimal_plain y), ((refl, decimal_plain width), ((refl, decimal_plain height), ((refl, class_plain class), tt)))))

label_clean : (x y : ℕ) (class : Class) → AllByRecursion IsAttribute (label_attributes x y class)
label_clean x y class = ((refl, decimal_plain x), ((refl, decimal_plain y), ((refl, class_plain class), tt)))

switch_clean : (c : Choice) → AllByRecursion IsAttribute (switch_attributes c)
switch_clean c = ((refl, choice_plain c), ((refl, choice_plain c), tt))

shape_clean : (s : Shape) (more : Content) → IsClean more → IsClean (drawn s more)
shape_clean (shape.Box x y width height class) more h = (refl, box_clean x y width height class, h)
shape_clean (shape.TitledBox x y width height class title) more h = (refl, box_clean x y width height class, (refl, tt, tt, tt), h)
shape_clean (shape.Curve x y bend_x bend_y to_x to_y class) more h = (refl, ((refl, curve_plain x y bend_x bend_y to_x to_y), ((refl, class_plain class), tt)), h)
shape_clean (shape.Label x y class text) more h = (refl, label_clean x y class, tt, h)
shape_clean (shape.TitledLabel x y class text title) more h = (refl, label_clean x y class, (refl, tt, tt, tt), h)
shape_clean (shape.Switch x y choice text) more h = (refl, switch_clean choice, (refl, label_clean x y class.Plain, tt, tt), h)

all_clean : (shapes : List Shape) → IsClean (all_drawn shapes)
all_clean [] = tt
all_clean (s ∷ shapes) = shape_clean s (all_drawn shapes) (all_clean shapes)

arrow_clean : (more : Content) → IsClean more → IsClean (arrow more)
arrow_clean more h = (refl, ((refl, refl), ((refl, refl), ((refl, refl), ((refl, refl), ((refl, refl), ((refl, refl), tt)))))), (refl, ((refl, refl), tt), tt), h)

picture_clean : (width height : ℕ) (style : List ℕ) (shapes : List Shape) → IsClean (picture width height style shapes)
picture_clean width height style shapes =
    (refl, ((refl, refl), ((refl, decimal_plain width), ((refl, decimal_plain height), ((refl, point_plain width height), tt)))), (refl, tt, tt, arrow_clean (all_drawn shapes) (all_clean shapes)), tt)

pub is_markup : (width height : ℕ) (style : List ℕ) (shapes : List Shape) (bytes : List ℕ) → bytes ≡ markup (picture width height style shapes) → IsMarkup bytes
is_markup width height style shapes bytes e = record { content = picture width height style shapes; clean = picture_clean width height style shapes; written = e }
