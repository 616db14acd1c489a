-- Parts that are audited.
use Rattle.std.proofs.Common.{◌≡◌, ℕ, zero, suc, ◌-◌, List, [], ◌∷◌, ◌++◌, Option, length, unwrap_or, refl, sym, ap, ◌∙◌, subst, inl, inr, arith}
use Rattle.std.specs.Prelude.{◌⊎◌, Result, Ok, Err, codes}
use Rattle.mutator_asm.specs.declared.instr.Instr.{Instr}
use Rattle.mutator_asm.specs.declared.item.Item.{Item}
use Rattle.mutator_asm.specs.Text.{IsText}
use Rattle.mutator_asm.specs.Theorems.{HasNoFault, MeansOneProgram}
use Rattle.plain_heap.specs.Print.{lines_seen, order_line}
use Rattle.dump_text.specs.Lines.{first_lines}
use Rattle.dump_text.specs.Text.{dump_text}
use Rattle.heap_audit.specs.Texts.FirstWrong.{IsFirstWrongOf}
use Rattle.heap_audit.specs.Texts.Part.{IsPart, Output, part_text}
use Rattle.heap_audit.specs.Verdict.{SaysYesIfTrue, TellsVerdict}
use Rattle.heap_audit.specs.declared.audit_error.AuditError.{AuditError}
use Rattle.heap_audit.specs.declared.audit_error.AuditError.TheVariants as audits
use Rattle.heap_audit.specs.declared.verdict.Verdict.{Verdict}
use Rattle.heap_audit.specs.declared.verdict.Verdict.TheVariants as verdicts
use Rattle.ael_jobs.specs.declared.status.Status.{Status}
use Rattle.ael_jobs.specs.declared.status.Status.TheVariants.{BadOutput, Done, Text, NoMemory}
use Rattle.ael_jobs.specs.Calls.Audits.{MissingPartsAreWrongInLineOne}
use Rattle.ael_jobs.specs.Calls.Status.{audit_status}
use Rattle.ael_jobs.specs.Tasks.Audit.{HasBadOutput, HasFaultyPart, HasNoVerdict, HasOutput, HasProgram, HasTrueOutput, IsAudited, verdict_status, verdict_text}
use Rattle.ael_jobs.specs.Tasks.Division.{HasNoPart, divided, part_in, text_in}

-- ---- faulty inputs

-- a part is not both of the form of an output and wrong
pub never_bad : MeansOneProgram → (input : List ℕ) (line : ℕ) → HasOutput input → HasBadOutput input line → ⊥
never_bad one input line right bad =
    let same = one (text_in input) bad.has.program right.has.program bad.has.items right.has.items bad.has.text right.has.text in
    bad.first.wrong right.output (subst (λ (p : List (List Instr)). IsPart (length p) right.output) (sym same.0) right.is_part) (ap (first_lines line) right.printed)

-- an input with an output is not faulty
pub never_faulty : MeansOneProgram → HasNoFault → (input : List ℕ) (status : Status) → HasOutput input → HasFaultyPart input status → ⊥
never_faulty one no_fault input (Text number line) right fault = no_fault (text_in input) right.has.program right.has.items number line right.has.text fault
never_faulty one no_fault input (BadOutput line) right bad = never_bad one input line right bad
never_faulty one no_fault input _ right fault = fault

-- ---- the audit

module _ (input text part : List ℕ) (program : List (List Instr)) (items : List Item) (turns : ℕ) (r : Result Verdict AuditError)
    (parts : ◌≡◌ {A = List ℕ × List ℕ} (text, part) (divided input)) (is_text : IsText text program items) (tells : TellsVerdict program turns part r) where
  abbrev has_program : HasProgram input
  has_program = record { program = program; items = items; text = subst (λ (bytes : List ℕ). IsText bytes program items) (ap (λ (p : List ℕ × List ℕ). p.0) parts) is_text }

  -- what is said of the part
  of_part : (Said : List ℕ → Result Verdict AuditError → Type 0) → Said part r → (o : Result Verdict AuditError) → r ≡ o → Said (part_in input) o
  of_part Said is o e = subst (λ (bytes : List ℕ). Said bytes o) (ap (λ (p : List ℕ × List ℕ). p.1) parts) (subst (Said part) e is)

  told : (o : Result Verdict AuditError) → r ≡ o → TellsVerdict program turns (part_in input) o
  told = of_part (TellsVerdict program turns) tells

  -- an audit that gave no verdict
  pub unaudited : (why : AuditError) → r ≡ Err why → HasNoVerdict input (audit_status why)
  unaudited audits.NoMemory e = inr refl
  unaudited (audits.Bad line) e = inl (record { has = has_program; first = told (Err (audits.Bad line)) e })

  -- and one that did
  pub audited : SaysYesIfTrue program turns part r → (verdict : Verdict) (output : List ℕ) (status : Status) → r ≡ Ok verdict → output ≡ verdict_text verdict → status ≡ verdict_status verdict → IsAudited turns input output status
  audited says verdict output status e prints went = record {
    has = has_program;
    verdict = verdict;
    tells = told (Ok verdict) e;
    yes = of_part (SaysYesIfTrue program turns) says (Ok verdict) e;
    prints = prints;
    went = went;
  }

-- ---- missing parts

front_empty : (xs ys : List ℕ) → xs ++ ys ≡ [] → xs ≡ []
front_empty [] ys e = refl
front_empty (x ∷ xs) ys e = absurd cc

back_empty : (xs ys : List ℕ) → xs ++ ys ≡ [] → ys ≡ []
back_empty [] ys e = e
back_empty (x ∷ xs) ys e = absurd cc

no_lines : (k : ℕ) (xs : List ℕ) → first_lines (suc k) xs ≡ [] → xs ≡ []
no_lines k [] e = refl
no_lines k (x ∷ xs) e = absurd cc

-- the text of an output has bytes
never_empty : (o : Output) → part_text o ≡ [] → ⊥
never_empty o e =
    let order : order_line o.order ≡ [] = back_empty (lines_seen 0 o.seen) (order_line o.order) (front_empty (lines_seen 0 o.seen ++ order_line o.order) (dump_text o.dump) e) in
    cc

-- so nothing goes wrong in line 1
line_one : (n line : ℕ) → IsFirstWrongOf part_text (IsPart n) [] line → line ≡ 1
line_one n zero first = absurd (first.wrong first.begun first.fits refl)
line_one n (suc zero) first = refl
line_one n (suc (suc k)) first =
    let less : suc (suc k) - 1 ≡ suc k = omega arith in
    absurd (never_empty first.begun (no_lines k (part_text first.begun) (sym (subst (λ (j : ℕ). first_lines j [] ≡ first_lines j (part_text first.begun)) less first.before))))

no_part : (input : List ℕ) → HasNoPart input → part_in input ≡ []
unfolding divided
no_part input none = ap (λ (o : Option (List ℕ × List ℕ)). (unwrap_or o (input, [])).1) none

pub missing_part : MissingPartsAreWrongInLineOne
missing_part input line none bad = line_one (length bad.has.program) line (subst (λ (part : List ℕ). IsFirstWrongOf part_text (IsPart (length bad.has.program)) part line) (no_part input none) bad.first)

-- ---- true outputs

is_yes : (verdict : Verdict) → ◌≡◌ {A = Result Verdict AuditError} (Ok verdict) (Ok verdicts.Yes) ⊎ ◌≡◌ {A = Result Verdict AuditError} (Ok verdict) (Err audits.NoMemory) → verdict ≡ verdicts.Yes
is_yes verdict (inl said) = cc
is_yes verdict (inr none) = absurd cc

-- the verdict on a true output is yes
pub says_yes_to_true : MeansOneProgram → (turns : ℕ) (input output : List ℕ) (status : Status) → HasTrueOutput turns input → IsAudited turns input output status
    → (output ≡ codes "audit: yes\n") × (status ≡ Done)
says_yes_to_true one turns input output status is_true is = (is.prints ∙ ap verdict_text same_verdict, is.went ∙ ap verdict_status same_verdict)
  where
    same : is.has.program ≡ is_true.has.has.program
    same = (one (text_in input) is.has.program is_true.has.has.program is.has.items is_true.has.has.items is.has.text is_true.has.has.text).0

    says : SaysYesIfTrue is_true.has.has.program turns (part_in input) (Ok is.verdict)
    says = subst (λ (p : List (List Instr)). SaysYesIfTrue p turns (part_in input) (Ok is.verdict)) same is.yes

    same_verdict : is.verdict ≡ verdicts.Yes
    same_verdict = is_yes is.verdict (says is_true.has.output is_true.has.is_part is_true.has.printed is_true.lines is_true.dump)
