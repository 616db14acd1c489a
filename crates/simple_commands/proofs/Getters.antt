-- What the getters read, by the rows.
use Rattle.std.proofs.Common.{◌≡◌, ◌∙◌, ◌<◌, ◌≤◌, ◌^◌, ℕ, false, List, Option, Some, None, Result, Ok, Err, refl, sym, ap, subst, arith}
use Rattle.std.specs.Prelude.{find, option_map, option_and_then, pos, unwrap_or}
use Rattle.std.specs.Option.{option_map_or}
use Rattle.std.specs.Str.{bytes_eq}
use Rattle.std.specs.Str.Parse.{ParsesUnsigned}
use Rattle.clap.specs.Lexer.{without_minus}
use Rattle.clap.specs.Matches.{ReadsOne, matched_of}
use Rattle.clap.specs.Facts.{Entry}
use Rattle.clap.specs.Values.{IsSignedIn, IsUnsignedIn}
use Rattle.clap.specs.Walk.{Text, rows_of}
use Rattle.clap.specs.declared.parser.matches.Found.{Found}
use Rattle.clap.proofs.WalkLemmas.{find_row}
use Rattle.clap.proofs.CallerReads.{signed_reads}
use Rattle.simple_commands.specs.Readers.{came_in_words, is_command_line, number_in, was_given}

pub given_is : (f : Found) (id : Text) → option_map_or is_command_line (option_and_then (λ a. a.source) (matched_of f id)) false ≡ was_given id (rows_of f)
given_is f id = go (find (λ (e : Entry). bytes_eq e.0.now id) f.entries.items) ∙ ap (λ o. option_map_or came_in_words o false) (sym (find_row f.entries.items id))
  where
    go : (o : Option Entry) → option_map_or is_command_line (option_and_then (λ a. a.source) (option_map (λ e. e.1) o)) false
        ≡ option_map_or came_in_words (option_map Rattle.clap.specs.Walk.row_of o) false
    go None = refl
    go (Some e) = refl

module _ (E : Type 0) (G : List ℕ → Result ℕ E → Type 0) (k : ℕ) (only : (u : List ℕ) (x : Result ℕ E) → G u x → ParsesUnsigned k 10 u x) where
  read_as_number : (t : Text) (r : Option ℕ) (n : ℕ) → r ≡ Some n → ReadsOne G t r → n ≡ number_in t
  read_as_number t r n is h = (only t (Ok n) (subst (λ (o : Option ℕ). ReadsOne G t o) is h)).1

  pub number_is : (o : Option Text) (r : Option ℕ) (d : ℕ) → (o ≡ None → r ≡ None) → ((t : Text) → o ≡ Some t → ReadsOne G t r)
      → ((t : Text) → o ≡ Some t → (least : ℕ) × (most : ℕ) × (v : Text) × (most < 2 ^ k) × (t ≡ without_minus v) × IsSignedIn (pos least) (pos most) v)
      → unwrap_or r d ≡ option_map_or number_in o d
  number_is None r d none some fits = ap (λ x. unwrap_or x d) (none refl)
  number_is (Some t) r d none some fits =
      let x = fits t refl in
      let got = signed_reads E G k x.0 x.1 x.2 r (subst (λ (u : Text). ReadsOne G u r) x.4 (some t refl)) only x.3 x.5 in
      ap (λ y. unwrap_or y d) got.1 ∙ read_as_number t r got.0 got.1 (some t refl)

  pub number_range : (least most : ℕ) (o : Option Text) (r : Option ℕ) (d : ℕ) → (o ≡ None → r ≡ None) → ((t : Text) → o ≡ Some t → ReadsOne G t r)
      → ((t : Text) → o ≡ Some t → (v : Text) × (t ≡ without_minus v) × IsSignedIn (pos least) (pos most) v)
      → most < 2 ^ k → least ≤ d → d ≤ most → (least ≤ unwrap_or r d) × (unwrap_or r d ≤ most)
  number_range least most None r d none some fits small low high = rw (none refl) (low, high)
  number_range least most (Some t) r d none some fits small low high =
      let x = fits t refl in
      let got = signed_reads E G k least most x.0 r (subst (λ (u : Text). ReadsOne G u r) x.1 (some t refl)) only small x.2 in
      rw got.1 (got.2, got.3)

  pub unsigned_is : (most : ℕ) (o : Option Text) (r : Option ℕ) → most < 2 ^ k → (o ≡ None → r ≡ None) → ((t : Text) → o ≡ Some t → ReadsOne G t r)
      → ((t : Text) → o ≡ Some t → IsUnsignedIn 0 most t) → r ≡ option_map number_in o
  unsigned_is most None r lt none some fits = none refl
  unsigned_is most (Some t) r lt none some fits = go r (some t refl)
    where
      go : (q : Option ℕ) → ReadsOne G t q → q ≡ Some (number_in t)
      go (Some n) h = ap Some (read_as_number t (Some n) n refl h)
      go None h =
          let fit = fits t refl in
          absurd (only t (Err h.0) h.1 (fit.0, omega arith))
