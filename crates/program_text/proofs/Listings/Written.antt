-- A listing that is written line by line.
use Rattle.std.proofs.Common.{◌≡◌, ℕ, ◌+◌, ◌<◌, ◌≤◌, Bool, eqb, false, List, [], ◌∷◌, ◌++◌, length, map, get_or, drop, sum_by, IsTrue, codes, sym, ap, ◌∙◌, arith, append_assoc, append-nil}
use Rattle.std.specs.List.{flat_map, join_with_byte, list_all}
use Rattle.std.proofs.lemmas.List.{at_drop_more, at_drop_all}
use Rattle.std.proofs.lemmas.List.Concat.{flat_map-append}
use Rattle.std.proofs.lemmas.List.Sums.{AllPass-from_list_all, get_or-le-sum_by}
use Rattle.std.proofs.lemmas.Option.{get_or_from_slice_get}
use Rattle.plain_state.specs.declared.sizes.TheConstants.{MOST_INSTRS}
use Rattle.mutator_asm.specs.declared.instr.Instr.{Instr}
use Rattle.mutator_asm.specs.declared.item.Item.{Item}
use Rattle.program_text.specs.Labels.{KnowsTargets}
use Rattle.mutator_asm.specs.Listing.{end_if, instr_lines, end_lines, section_lines, instr_tokens, is_target_in, item_token, label_if, label_at, line_text, listing, schedule_lines}
use Rattle.mutator_asm.specs.Program.{is_closed}

-- what is written where nothing is left, behind its begin
written_all : (old rest first start begin text : List ℕ) → rest ≡ [] → first ≡ start ++ begin → old ++ rest ≡ first ++ text → old ≡ start ++ (begin ++ text)
written_all old rest first start begin text none behind so_far = sym (append-nil old) ∙ ap (λ xs. old ++ xs) (sym none) ∙ so_far ∙ ap (λ xs. xs ++ text) behind ∙ append_assoc start begin text

-- ---- the instructions of a section

-- whether a jump leads to a number, as it is kept
pub known_target : (targets : List Bool) (section : List Instr) (k : ℕ) (b : Bool) → KnowsTargets targets section → k ≤ length section → b ≡ get_or targets k b → b ≡ is_target_in section k
known_target targets section k b knows le is = is ∙ get_or_from_slice_get targets k (is_target_in section k) b (knows.each k le)

-- one line more
pub line_more : (section : List Instr) (k : ℕ) (d : Instr) (is_target : Bool) (start old new : List ℕ) → k < length section → is_target ≡ is_target_in section k
    → new ≡ old ++ line_text (label_if is_target k ++ instr_tokens (get_or section k d)) → old ++ flat_map line_text (instr_lines section k (drop k section)) ≡ start
    → new ++ flat_map line_text (instr_lines section (k + 1) (drop (k + 1) section)) ≡ start
line_more section k d is_target start old new lt marked wrote so_far =
    let text = λ (instrs : List Instr). flat_map line_text (instr_lines section k instrs) in
    let line = line_text (label_at section k ++ instr_tokens (get_or section k d)) in
    let rest = flat_map line_text (instr_lines section (k + 1) (drop (k + 1) section)) in
    ap (λ xs. xs ++ rest) (rw marked at wrote) ∙ append_assoc old line rest ∙ ap (λ xs. old ++ xs) (sym (at_drop_more text section k d lt)) ∙ so_far

-- the first line, those of the instructions, and the last
pub section_text : (section : List Instr) (k : ℕ) (is_target : Bool) (start all old new : List ℕ) → length section ≤ k → is_target ≡ is_target_in section (length section) → all ≡ start ++ codes ".mutator\n"
    → old ++ flat_map line_text (instr_lines section k (drop k section)) ≡ all ++ flat_map line_text (instr_lines section 0 section)
    → new ≡ old ++ flat_map line_text (end_if is_target (length section))
    → new ≡ start ++ flat_map line_text (section_lines section)
section_text section k is_target start all old new le marked first so_far wrote =
    let lines = flat_map line_text (instr_lines section 0 section) in
    let end = flat_map line_text (end_lines section) in
    let text = λ (instrs : List Instr). flat_map line_text (instr_lines section k instrs) in
    let last : new ≡ old ++ end = rw marked at wrote in
    last ∙ ap (λ xs. xs ++ end) (written_all old (text (drop k section)) all start (codes ".mutator\n") lines (at_drop_all text section k le) first so_far) ∙ append_assoc start (codes ".mutator\n" ++ lines) end ∙ ap (λ xs. start ++ (codes ".mutator\n" ++ xs)) (sym (flat_map-append line_text (instr_lines section 0 section) (end_lines section)))

-- ---- the items of a schedule

-- each behind a space
items_text : (first : List ℕ) (items : List Item) → join_with_byte 32 (first ∷ map item_token items) ≡ first ++ flat_map (λ item. codes " " ++ item_token item) items
items_text first [] = sym (append-nil first)
items_text first (item ∷ items) = ap (λ xs. first ++ 32 ∷ xs) (items_text (item_token item) items)

pub schedule_text : (items : List Item) (i : ℕ) (start first old new : List ℕ) → eqb (length items) 0 ≡ false → length items ≤ i → first ≡ start ++ codes ".schedule"
    → old ++ flat_map (λ item. codes " " ++ item_token item) (drop i items) ≡ first ++ flat_map (λ item. codes " " ++ item_token item) items
    → new ≡ old ++ codes "\n" → new ≡ start ++ flat_map line_text (schedule_lines items)
schedule_text [] i start first old new some le behind so_far wrote = absurd cc
schedule_text (item ∷ more) i start first old new some le behind so_far wrote =
    let items = item ∷ more in
    let texts = flat_map (λ j. codes " " ++ item_token j) in
    let text = texts items in
    let old_is = written_all old (texts (drop i items)) first start (codes ".schedule") text (at_drop_all texts items i le) behind so_far in
    let line : line_text (codes ".schedule" ∷ map item_token items) ≡ codes ".schedule" ++ text ++ codes "\n" = ap (λ xs. xs ++ codes "\n") (items_text (codes ".schedule") items) in
    wrote ∙ ap (λ xs. xs ++ codes "\n") old_is ∙ append_assoc start (codes ".schedule" ++ text) (codes "\n") ∙ ap (λ xs. start ++ xs) (sym line ∙ sym (append-nil (line_text (codes ".schedule" ∷ map item_token items))))

-- ---- all sections

-- a section of a program has few instructions
pub section_few : (code : List (List Instr)) (k : ℕ) (section d : List Instr) → section ≡ get_or code k d → k < length code → sum_by length code ≤ MOST_INSTRS → length section ≤ MOST_INSTRS
section_few code k section d is lt few = omega (arith, get_or-le-sum_by length code k d lt, ap length is)

-- and its jumps stay in it
pub section_closed : (code : List (List Instr)) (k : ℕ) (section d : List Instr) → section ≡ get_or code k d → k < length code → IsTrue (list_all is_closed code) → IsTrue (is_closed section)
section_closed code k section d is lt closed = rw is (AllPass-from_list_all is_closed code closed k d lt)

-- one section more
pub section_more : (code : List (List Instr)) (k : ℕ) (section d : List Instr) (start old new : List ℕ) → section ≡ get_or code k d → k < length code
    → new ≡ old ++ flat_map line_text (section_lines section) → old ++ flat_map line_text (flat_map section_lines (drop k code)) ≡ start
    → new ++ flat_map line_text (flat_map section_lines (drop (k + 1) code)) ≡ start
section_more code k section d start old new is lt wrote so_far =
    let text = λ (sections : List (List Instr)). flat_map line_text (flat_map section_lines sections) in
    let later = drop (k + 1) code in
    let lines = flat_map line_text (section_lines section) in
    let parts = at_drop_more text code k d lt ∙ ap (λ s. text (s ∷ later)) (sym is) ∙ flat_map-append line_text (section_lines section) (flat_map section_lines later) in
    ap (λ xs. xs ++ text later) wrote ∙ append_assoc old lines (text later) ∙ ap (λ xs. old ++ xs) (sym parts) ∙ so_far

pub listing_text : (code : List (List Instr)) (schedule : List Item) (i : ℕ) (first new : List ℕ) → length code ≤ i → first ≡ flat_map line_text (schedule_lines schedule)
    → new ++ flat_map line_text (flat_map section_lines (drop i code)) ≡ first ++ flat_map line_text (flat_map section_lines code) → new ≡ listing code schedule
unfolding listing
listing_text code schedule i first new le behind so_far =
    let text = λ (sections : List (List Instr)). flat_map line_text (flat_map section_lines sections) in
    written_all new (text (drop i code)) first [] (flat_map line_text (schedule_lines schedule)) (text code) (at_drop_all text code i le) behind so_far ∙ sym (flat_map-append line_text (schedule_lines schedule) (flat_map section_lines code))
