-- What the lines of a listing say.
use Rattle.std.proofs.Common.{ℕ, ◌+◌, true, cond, List, [], ◌∷◌, ◌++◌, length, Option, Some, None}
use Rattle.std.specs.List.{All, flat_map}
use Rattle.std.proofs.lemmas.Bool.{cond_both}
use Rattle.std.proofs.lemmas.List.Elements.{All-nil, All-cons, All-head, All-tail, All-append}
use Rattle.mutator_asm.specs.declared.instr.Instr.{Instr}
use Rattle.mutator_asm.specs.declared.instr.Instr.TheVariants.{Jmp, Jz, Jal}
use Rattle.mutator_asm.specs.declared.item.Item.{Item}
use Rattle.mutator_asm.specs.declared.jump.Jump.TheVariants.{Always, IfZero, Link}
use Rattle.mutator_asm.specs.Line.{Word, Nothing, Begins, Schedules, Does, Jumps, Line, unlabelled}
use Rattle.mutator_asm.specs.Listing.{is_target_in, label_name}

-- an instruction, a jump by the label of its target
abbrev pub instr_word : Instr → Word
instr_word (Jmp t) = Jumps Always (label_name t)
instr_word (Jz a t) = Jumps (IfZero a) (label_name t)
instr_word (Jal d t) = Jumps (Link d) (label_name t)
instr_word instr = Does instr

-- the label of number k, where a jump leads to it
abbrev pub label_read : List Instr → ℕ → Option (List ℕ)
label_read section k = cond (is_target_in section k) (Some (label_name k)) None

-- the lines of a section's instructions from number k on
abbrev pub instrs_read : List Instr → ℕ → List Instr → List Line
instrs_read section k [] = []
instrs_read section k (instr ∷ instrs) = record { label = label_read section k; word = instr_word instr } ∷ instrs_read section (k + 1) instrs

-- the line of label number k alone
abbrev pub label_line : ℕ → Line
label_line k = record { label = Some (label_name k); word = Nothing }

-- the line of a label behind the last instruction
abbrev pub end_read : List Instr → List Line
end_read section = cond (is_target_in section (length section)) (label_line (length section) ∷ []) []

-- the lines of a section behind the one that begins it
abbrev pub body_read : List Instr → List Line
body_read section = instrs_read section 0 section ++ end_read section

abbrev pub section_read : List Instr → List Line
section_read section = unlabelled (Begins true) ∷ body_read section

abbrev pub schedule_read : List Item → List Line
schedule_read [] = []
schedule_read (item ∷ items) = unlabelled (Schedules (item ∷ items)) ∷ []

-- all lines; a blank one is behind the last LF
abbrev pub listed : List (List Instr) → List Item → List Line
listed code schedule = schedule_read schedule ++ flat_map section_read code ++ unlabelled Nothing ∷ []

-- ---- the words of a section's lines

pub instrs_words : (P : Word → Type 0) (section : List Instr) (k : ℕ) (instrs : List Instr) → All (λ instr. P (instr_word instr)) instrs → All (λ line. P line.word) (instrs_read section k instrs)
instrs_words P section k [] all = All-nil (λ line. P line.word)
instrs_words P section k (instr ∷ instrs) all =
    All-cons (λ line. P line.word) _ (instrs_read section (k + 1) instrs) (All-head (λ i. P (instr_word i)) instr instrs all) (instrs_words P section (k + 1) instrs (All-tail (λ i. P (instr_word i)) instr instrs all))

-- what holds of the word of each instruction, and of none, holds of the words of a section
pub body_words : (P : Word → Type 0) (section : List Instr) → P Nothing → All (λ instr. P (instr_word instr)) section → All (λ line. P line.word) (body_read section)
body_words P section end all =
    let line = label_line (length section) in
    All-append (λ l. P l.word) (instrs_read section 0 section) (end_read section) (instrs_words P section 0 section all)
    (cond_both (is_target_in section (length section)) (line ∷ []) [] (All (λ l. P l.word)) (λ e. All-cons (λ l. P l.word) line [] end (All-nil (λ l. P l.word))) (λ e. All-nil (λ l. P l.word)))
