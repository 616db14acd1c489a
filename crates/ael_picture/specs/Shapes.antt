-- The shapes of a picture, as markup.
use Rattle.std.specs.Prelude.{ℕ, List, [], ◌∷◌, ◌++◌, codes, decimal, string_bytes}
use Rattle.std.specs.Str.{chars}
use Rattle.ael_picture.specs.declared.choice.Choice.{Choice}
use Rattle.ael_picture.specs.declared.choice.Choice.TheVariants as choice
use Rattle.ael_picture.specs.declared.class.Class.{Class}
use Rattle.ael_picture.specs.declared.class.Class.TheVariants as class
use Rattle.ael_picture.specs.declared.shape.Shape.{Shape}
use Rattle.ael_picture.specs.declared.shape.Shape.TheVariants as shape
use Rattle.ael_picture.specs.Markup.{Attribute, Content, Done, Text, Empty, Full}

abbrev pub class_name : Class → List ℕ
class_name class.Free = codes "free"
class_name class.Header = codes "header"
class_name class.Number = codes "number"
class_name class.Raw = codes "raw"
class_name class.Old = codes "old"
class_name class.New = codes "new"
class_name class.Forward = codes "forward"
class_name class.Faded = codes "faded"
class_name class.Busy = codes "busy"
class_name class.Open = codes "open"
class_name class.Scanning = codes "scanning"
class_name class.Earlier = codes "earlier"
class_name class.Unset = codes "unset"
class_name class.Mark = codes "mark"
class_name class.FieldNew = codes "field to-new"
class_name class.FieldOld = codes "field to-old"
class_name class.Weak = codes "field weak"
class_name class.RootNew = codes "root to-new"
class_name class.RootOld = codes "root to-old"
class_name class.Copy = codes "copy"
class_name class.Copied = codes "copy past"
class_name class.Plain = codes "plain"
class_name class.Small = codes "small"
class_name class.Inside = codes "inside"
class_name class.Ending = codes "ending"

abbrev pub choice_name : Choice → List ℕ
choice_name choice.All = codes "all"
choice_name choice.Fields = codes "fields"
choice_name choice.Roots = codes "roots"
choice_name choice.Copies = codes "copies"
choice_name choice.Nothing = codes "nothing"

abbrev pub number : List ℕ → ℕ → Attribute
number name value = record { name = name; value = decimal value }

abbrev pub class_attribute : Class → Attribute
class_attribute class = record { name = codes "class"; value = class_name class }

-- a box, with what stands in its opening tag
abbrev pub box_attributes : (x y width height : ℕ) → Class → List Attribute
box_attributes x y width height class =
    number (codes "x") x ∷ number (codes "y") y ∷ number (codes "width") width ∷ number (codes "height") height ∷ class_attribute class ∷ []

-- where a text begins, and what it stands for
abbrev pub label_attributes : (x y : ℕ) → Class → List Attribute
label_attributes x y class = number (codes "x") x ∷ number (codes "y") y ∷ class_attribute class ∷ []

abbrev pub title_element : List ℕ → Content → Content
title_element title more = Full (codes "title") [] (Text (chars title) Done) more

-- two coordinates
abbrev pub point : (x y : ℕ) → List ℕ
point x y = decimal x ++ (codes " " ++ decimal y)

-- a curve by its three points, as SVG writes it
abbrev pub curve_path : (x y bend_x bend_y to_x to_y : ℕ) → List ℕ
curve_path x y bend_x bend_y to_x to_y = codes "M" ++ (point x y ++ (codes "Q" ++ (point bend_x bend_y ++ (codes " " ++ point to_x to_y))))

-- a link to itself, by whose name the style chooses lines
abbrev pub switch_attributes : Choice → List Attribute
switch_attributes choice =
    record { name = codes "id"; value = choice_name choice } ∷ record { name = codes "href"; value = codes "#" ++ choice_name choice } ∷ []

-- a shape before more content
abbrev pub drawn : Shape → Content → Content
drawn (shape.Box x y width height class) more = Empty (codes "rect") (box_attributes x y width height class) more
drawn (shape.TitledBox x y width height class title) more =
    Full (codes "rect") (box_attributes x y width height class) (title_element (string_bytes title) Done) more
drawn (shape.Curve x y bend_x bend_y to_x to_y class) more =
    Empty (codes "path") (record { name = codes "d"; value = curve_path x y bend_x bend_y to_x to_y } ∷ class_attribute class ∷ []) more
drawn (shape.Label x y class text) more = Full (codes "text") (label_attributes x y class) (Text (chars (string_bytes text)) Done) more
drawn (shape.TitledLabel x y class text title) more =
    Full (codes "text") (label_attributes x y class) (title_element (string_bytes title) (Text (chars (string_bytes text)) Done)) more
drawn (shape.Switch x y choice text) more =
    Full (codes "a") (switch_attributes choice) (Full (codes "text") (label_attributes x y class.Plain) (Text (chars (string_bytes text)) Done) Done) more

-- shapes, the first one lowest
abbrev pub all_drawn : List Shape → Content
all_drawn [] = Done
all_drawn (s ∷ shapes) = drawn s (all_drawn shapes)

-- the point of an arrow, which the style puts at the ends of curves
abbrev pub arrow : Content → Content
arrow more =
    Full (codes "marker")
    (record { name = codes "id"; value = codes "arrow" } ∷ record { name = codes "markerWidth"; value = codes "7" } ∷ record { name = codes "markerHeight"; value = codes "6" } ∷
    record { name = codes "refX"; value = codes "6" } ∷ record { name = codes "refY"; value = codes "3" } ∷ record { name = codes "orient"; value = codes "auto" } ∷ [])
    (Empty (codes "path") (record { name = codes "d"; value = codes "M0 0L7 3L0 6" } ∷ []) Done) more

-- a width and a height as the part of the plane that is shown
abbrev pub view : (width height : ℕ) → Attribute
view width height = record { name = codes "viewBox"; value = codes "0 0 " ++ point width height }

-- the whole picture: its colours, and its shapes
abbrev pub picture : (width height : ℕ) → (style : List ℕ) → List Shape → Content
picture width height style shapes =
    Full (codes "svg")
    (record { name = codes "xmlns"; value = codes "http://www.w3.org/2000/svg" } ∷ number (codes "width") width ∷ number (codes "height") height ∷ view width height ∷ [])
    (Full (codes "style") [] (Text (chars style) Done) (arrow (all_drawn shapes))) Done
