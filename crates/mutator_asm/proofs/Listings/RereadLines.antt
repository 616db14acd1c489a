-- Each line of a listing is made of tokens, is read back as what it lists, and is short.
use Rattle.std.proofs.Common.{◌≡◌, ℕ, ◌+◌, ◌-◌, ◌*◌, ◌^◌, ◌<◌, ◌≤◌, Bool, true, false, cond, List, [], ◌∷◌, ◌++◌, length, map, sum_by, eqb, Some, None, refl, ap, ap₂, ◌∙◌, arith}
use Rattle.std.specs.Prelude.{codes}
use Rattle.std.specs.List.{list_all, flat_map, filter_map}
use Rattle.std.proofs.lemmas.Bool.{and_parts, and_from, ne_eqb}
use Rattle.std.proofs.lemmas.Bool.Decides.{nat_tests}
use Rattle.std.proofs.lemmas.List.{length-append, length-map, map-append}
use Rattle.std.proofs.lemmas.List.Concat.{flat_map-append}
use Rattle.std.proofs.lemmas.List.Folds.{list_all-append, list_all-map}
use Rattle.std.proofs.lemmas.List.Sums.{sum_by-cons}
use Rattle.plain_state.specs.declared.sizes.TheConstants.{MOST_INSTRS}
use Rattle.mutator_asm.specs.declared.instr.Instr.{Instr}
use Rattle.mutator_asm.specs.declared.instr.Instr.TheVariants.{Halt}
use Rattle.mutator_asm.specs.declared.item.Item.{Item}
use Rattle.mutator_asm.specs.Program.{is_valid, is_item, IsWellFormed}
use Rattle.mutator_asm.specs.Token.{label_of}
use Rattle.mutator_asm.specs.Item.{item_of}
use Rattle.mutator_asm.specs.Instr.{instr_of}
use Rattle.mutator_asm.specs.Line.{Begins, Schedules, Line, unlabelled, named_of, labelled_of, is_item_token, schedules_of, line_from}
use Rattle.mutator_asm.specs.Listing.{end_if, is_target_in, label_name, item_token, instr_tokens, label_if, instr_lines, end_lines, section_lines, schedule_lines, line_text}
use Rattle.mutator_asm.proofs.Listings.Lines.{instr_word, label_line, instrs_read, body_read, section_read, schedule_read}
use Rattle.mutator_asm.proofs.Lists.Tests.{all_weaker}
use Rattle.mutator_asm.proofs.Listings.RereadTokens.{number_reread, register_reread, operand_reread, label_is_name, label_reread, item_reread}
use Rattle.mutator_asm.proofs.Listings.Split.{is_token, line_length}
use Rattle.mutator_asm.proofs.Listings.Tokens.{label_is_token, item_is_token, instr_is_tokens}

-- ---- instructions

-- an instruction's tokens say the instruction
instr_reread : (instr : Instr) → is_valid instr ≡ true → labelled_of (instr_tokens instr) ≡ instr_word instr
unfolding named_of instr_of
instr_reread Halt h = refl
instr_reread instr h = grind (arith, nat_tests, and_parts, register_reread, operand_reread, number_reread, label_is_name)

-- its name is no label and no directive
plain_from : (instr : Instr) → line_from (instr_tokens instr) ≡ unlabelled (labelled_of (instr_tokens instr))
unfolding label_of
plain_from Halt = refl
plain_from instr = refl

instr_few : (instr : Instr) → length (instr_tokens instr) ≤ 6
instr_few Halt = omega arith
instr_few instr = omega arith

-- ---- lines

-- these lines of tokens say what was listed, in a text of at most n bytes
pub record IsListing (lines : List (List (List ℕ))) (read : List Line) (n : ℕ) : Type 0 where
  pub tokens : list_all (list_all is_token) lines ≡ true
  pub says : map line_from lines ≡ read
  pub short : length (flat_map line_text lines) ≤ n

no_lines : (n : ℕ) → IsListing [] [] n
no_lines n = record { tokens = refl; says = refl; short = omega arith }

one_line : (tokens : List (List ℕ)) (line : Line) (n : ℕ) → 25 * length tokens + 1 ≤ n → list_all is_token tokens ≡ true → line_from tokens ≡ line → IsListing (tokens ∷ []) (line ∷ []) n
one_line tokens line n le are_tokens says = record {
  tokens = and_from (list_all is_token tokens) true are_tokens refl;
  says = ap (λ l. l ∷ []) says;
  short = omega (arith, length-append (line_text tokens) [], line_length tokens are_tokens);
}

more_lines : {xs ys : List (List (List ℕ))} {read more : List Line} {m n k : ℕ} → IsListing xs read m → IsListing ys more n → m + n ≤ k → IsListing (xs ++ ys) (read ++ more) k
more_lines {xs} {ys} p q le = record {
  tokens = list_all-append (list_all is_token) xs ys ∙ and_from _ _ p.tokens q.tokens;
  says = map-append line_from xs ys ∙ ap₂ (λ ls ms. ls ++ ms) p.says q.says;
  short = omega (arith, ap length (flat_map-append line_text xs ys), length-append (flat_map line_text xs) (flat_map line_text ys), p.short, q.short);
}

-- ---- sections

-- a label, and what stands behind it
labelled_reread : (k : ℕ) (rest : List (List ℕ)) → k < 2 ^ 64 → line_from ((label_name k ++ codes ":") ∷ rest) ≡ record { label = Some (label_name k); word = labelled_of rest }
labelled_reread k rest h = rw (label_reread (label_name k) (label_is_name k h)) refl

instr_listed : (b : Bool) (k : ℕ) (instr : Instr) → k ≤ MOST_INSTRS → is_valid instr ≡ true → IsListing ((label_if b k ++ instr_tokens instr) ∷ []) (record { label = cond b (Some (label_name k)) None; word = instr_word instr } ∷ []) 176
instr_listed true k instr le valid =
    one_line ((label_name k ++ codes ":") ∷ instr_tokens instr) _ 176 (omega (arith, instr_few instr)) (and_from _ _ (label_is_token k le) (instr_is_tokens instr valid))
    (labelled_reread k (instr_tokens instr) (omega arith) ∙ ap (λ word. record { label = Some (label_name k); word = word }) (instr_reread instr valid))
instr_listed false k instr le valid = one_line (instr_tokens instr) _ 176 (omega (arith, instr_few instr)) (instr_is_tokens instr valid) (plain_from instr ∙ ap unlabelled (instr_reread instr valid))

-- the lines of a section's instructions from number k on
instrs_listed : (section : List Instr) (k : ℕ) (instrs : List Instr) → list_all is_valid instrs ≡ true → k + length instrs ≤ MOST_INSTRS → IsListing (instr_lines section k instrs) (instrs_read section k instrs) (176 * length instrs)
instrs_listed section k [] valid few = no_lines (176 * 0)
instrs_listed section k (instr ∷ instrs) valid few =
    let parts = and_parts (is_valid instr) (list_all is_valid instrs) valid in
    more_lines (instr_listed (is_target_in section k) k instr (omega arith) parts.0) (instrs_listed section (k + 1) instrs parts.1 (omega arith)) (omega arith)

end_listed : (b : Bool) (k : ℕ) → k ≤ MOST_INSTRS → IsListing (end_if b k) (cond b (label_line k ∷ []) []) 26
end_listed true k le = one_line ((label_name k ++ codes ":") ∷ []) _ 26 (omega arith) (and_from _ true (label_is_token k le) refl) (labelled_reread k [] (omega arith))
end_listed false k le = no_lines 26

section_listed : (section : List Instr) → list_all is_valid section ≡ true → length section ≤ MOST_INSTRS → IsListing (section_lines section) (section_read section) (176 * length section + 52)
section_listed section valid few =
    let begin : IsListing ((codes ".mutator" ∷ []) ∷ []) (unlabelled (Begins true) ∷ []) 26 = one_line (codes ".mutator" ∷ []) (unlabelled (Begins true)) 26 (omega arith) refl refl in
    let body : IsListing (instr_lines section 0 section ++ end_lines section) (body_read section) (176 * length section + 26) = more_lines (instrs_listed section 0 section valid (omega arith)) (end_listed (is_target_in section (length section)) (length section) few) (omega arith) in
    more_lines begin body (omega arith)

code_listed : (code : List (List Instr)) → list_all (list_all is_valid) code ≡ true → sum_by length code ≤ MOST_INSTRS → IsListing (flat_map section_lines code) (flat_map section_read code) (176 * sum_by length code + 52 * length code)
code_listed [] valid few = no_lines _
code_listed (section ∷ code) valid few =
    let parts = and_parts (list_all is_valid section) (list_all (list_all is_valid) code) valid in
    let sum = sum_by-cons length section code in
    more_lines (section_listed section parts.0 (omega arith)) (code_listed code parts.1 (omega arith)) (omega arith)

-- ---- the schedule

items_are_tokens : (items : List Item) → list_all is_item items ≡ true → list_all is_token (map item_token items) ≡ true
items_are_tokens items h = list_all-map is_token item_token items ∙ all_weaker is_item (λ item. is_token (item_token item)) item_is_token items h

items_told : (items : List Item) → list_all is_item items ≡ true → list_all is_item_token (map item_token items) ≡ true
items_told items h = list_all-map is_item_token item_token items ∙ all_weaker is_item (λ item. is_item_token (item_token item)) (λ item is. rw (item_reread item is) refl) items h

items_reread : (items : List Item) → list_all is_item items ≡ true → filter_map item_of (map item_token items) ≡ items
items_reread [] h = refl
items_reread (item ∷ items) h =
    let parts = and_parts (is_item item) (list_all is_item items) h in
    rw (item_reread item parts.0) (ap (λ others. item ∷ others) (items_reread items parts.1))

schedules_if : (tokens : List (List ℕ)) (items : List Item) → eqb (length tokens) 0 ≡ false → list_all is_item_token tokens ≡ true → filter_map item_of tokens ≡ items → schedules_of tokens ≡ Schedules items
unfolding schedules_of
schedules_if tokens items some told same = rw (some, told, same) refl

schedule_listed : (schedule : List Item) → list_all is_item schedule ≡ true → IsListing (schedule_lines schedule) (schedule_read schedule) (25 * length schedule + 26)
schedule_listed [] h = no_lines _
schedule_listed (item ∷ items) h =
    let all = item ∷ items in
    one_line (codes ".schedule" ∷ map item_token all) (unlabelled (Schedules all)) (25 * length all + 26) (omega (arith, length-map items item_token)) (and_from _ _ refl (items_are_tokens all h))
    (ap unlabelled (schedules_if (map item_token all) all (ne_eqb _ 0 (λ e. omega arith)) (items_told all h) (items_reread all h)))

-- ---- all lines

-- the lines of a well-formed program's listing say the program
pub program_listed : (code : List (List Instr)) (schedule : List Item) → IsWellFormed code schedule → IsListing (schedule_lines schedule ++ flat_map section_lines code) (schedule_read schedule ++ flat_map section_read code) (2 ^ 31 - 1)
program_listed code schedule well =
    let sections = well.few_sections in
    let instrs = well.few_instrs in
    let items = well.few_items in
    more_lines (schedule_listed schedule well.items) (code_listed code well.instrs instrs) (omega arith)
