-- Elements and text, and how they are written.
use Rattle.std.specs.Prelude.{ℕ, ◌≡◌, Bool, not, ◌&&◌, ◌||◌, ◌==◌, IsTrue, nat_le, List, [], ◌++◌, codes, if◌then◌else◌}
use Rattle.std.specs.Char.{encode_utf8}
use Rattle.std.specs.List.{flat_map, list_all, AllByRecursion}

-- a name with its value, as it stands in an opening tag
pub record Attribute : Type 0 where
  pub name : List ℕ
  pub value : List ℕ

-- text, by its characters, and elements, one after another: an element is empty, or has content of its own
pub data Content : Type 0 where
  Done : Content
  Text : (text : List ℕ) → (more : Content) → Content
  Empty : (name : List ℕ) → (attributes : List Attribute) → (more : Content) → Content
  Full : (name : List ℕ) → (attributes : List Attribute) → (inside : Content) → (more : Content) → Content

-- a character of text; those that markup begins with are named
abbrev pub escaped : ℕ → List ℕ
escaped c = if c == 38 then codes "&amp;" else (if c == 60 then codes "&lt;" else (if c == 62 then codes "&gt;" else encode_utf8 c))

abbrev pub attribute_text : Attribute → List ℕ
attribute_text a = codes " " ++ (a.name ++ (codes "=\"" ++ (a.value ++ codes "\"")))

-- how content is written: each element that is opened is closed
abbrev pub markup : Content → List ℕ
markup Done = []
markup (Text text more) = flat_map escaped text ++ markup more
markup (Empty name attributes more) = codes "<" ++ (name ++ (flat_map attribute_text attributes ++ (codes "/>" ++ markup more)))
markup (Full name attributes inside more) =
    codes "<" ++ (name ++ (flat_map attribute_text attributes ++ (codes ">" ++ (markup inside ++ (codes "</" ++ (name ++ (codes ">" ++ markup more)))))))

-- ---- what may stand in a tag

-- a letter or a digit, `:` or `-`
abbrev pub is_in_name : ℕ → Bool
is_in_name b = (nat_le 97 b && nat_le b 122) || (nat_le 65 b && nat_le b 90) || (nat_le 48 b && nat_le b 58) || (b == 45)

-- neither a quotation mark nor what markup begins with
abbrev pub is_in_value : ℕ → Bool
is_in_value b = not (b == 34) && not (b == 38) && not (b == 60)

abbrev pub IsAttribute : Attribute → Type 0
IsAttribute a = IsTrue (list_all is_in_name a.name) × IsTrue (list_all is_in_value a.value)

-- names and values of all elements are such
abbrev pub IsClean : Content → Type 0
IsClean Done = Unit {0}
IsClean (Text text more) = IsClean more
IsClean (Empty name attributes more) = IsTrue (list_all is_in_name name) × AllByRecursion IsAttribute attributes × IsClean more
IsClean (Full name attributes inside more) = IsTrue (list_all is_in_name name) × AllByRecursion IsAttribute attributes × IsClean inside × IsClean more

-- the bytes are well-formed content
pub record IsMarkup (bytes : List ℕ) : Type 0 where
  pub content : Content
  pub clean : IsClean content
  pub written : bytes ≡ markup content
