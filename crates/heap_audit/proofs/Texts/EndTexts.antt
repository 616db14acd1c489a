-- The end of a mutator: it is read by its text, and what is read has that text.
use Rattle.std.proofs.Common.{◌≡◌, ℕ, decimal, List, [], ◌∷◌, ◌++◌, codes, Option, Some, None, refl, sym, ap, subst, ◌∙◌}
use Rattle.std.proofs.lemmas.List.{append_assoc}
use Rattle.plain_state.specs.declared.end.End.{End}
use Rattle.plain_state.specs.declared.end.End.TheVariants.{Halt, NotPointer, NotNumber, OutOfRange, WeakCell, IntoRaw, ZeroDivisor, JumpOut, TurnsOut, OutputFull, HeapFull}
use Rattle.plain_heap.specs.Print.{end_text}
use Rattle.dump_text.specs.Pieces.{◌>>=◌, byte_at, numeral_at}
use Rattle.dump_text.proofs.Options.{some_bind, some_is}
use Rattle.dump_text.proofs.Pieces.{byte_takes}
use Rattle.heap_audit.specs.Texts.Pieces.{amount_at, chosen, decimal_at}
use Rattle.heap_audit.specs.Texts.Ends.{text_at, full_end_at, told, end_at, EndFits}
use Rattle.dump_text.proofs.Numerals.{Stops}
use Rattle.heap_audit.proofs.Texts.OrderMarks.{amount_takes, amount_again}

text_takes : (wanted bytes rest : List ℕ) → text_at wanted bytes ≡ Some rest → bytes ≡ wanted ++ rest
text_takes [] bytes rest e = some_is {A = List ℕ} bytes rest e
text_takes (b ∷ wanted) bytes rest e =
    let a = some_bind (byte_at b bytes) (λ rest. text_at wanted rest) rest e in
    byte_takes b bytes a.0 a.1 ∙ ap (λ (xs : List ℕ). b ∷ xs) (text_takes wanted a.0 rest a.2)

-- ---- a heap that is full

abbrev full_numbers : (asked room live : ℕ) → List ℕ → List ℕ
full_numbers asked room live rest = decimal asked ++ (codes " room " ++ (decimal room ++ (codes " live " ++ (decimal live ++ rest))))

regroup : (asked room live : ℕ) (rest : List ℕ) → end_text (Some (HeapFull asked room live)) ++ rest ≡ codes "heap full asked " ++ full_numbers asked room live rest
regroup asked room live rest = simp append_assoc refl

-- what is read has its text, and its numbers fit
abbrev Taken : List ℕ → Option End → List ℕ → Type 0
Taken bytes end rest = (bytes ≡ end_text end ++ rest) × EndFits end

full_takes : (bytes : List ℕ) (end : Option End) (rest : List ℕ) → full_end_at bytes ≡ Some (end, rest) → Taken (codes "heap full asked " ++ bytes) end rest
unfolding full_end_at
full_takes bytes end rest e =
    let a = some_bind (amount_at bytes) (λ asked. text_at (codes " room ") asked.1 >>= λ middle. amount_at middle >>= λ room. text_at (codes " live ") room.1 >>= λ last. amount_at last >>= λ live. Some (Some (HeapFull asked.0 room.0 live.0), live.1)) (end, rest) e in
    let b = some_bind (text_at (codes " room ") a.0.1) (λ middle. amount_at middle >>= λ room. text_at (codes " live ") room.1 >>= λ last. amount_at last >>= λ live. Some (Some (HeapFull a.0.0 room.0 live.0), live.1)) (end, rest) a.2 in
    let c = some_bind (amount_at b.0) (λ room. text_at (codes " live ") room.1 >>= λ last. amount_at last >>= λ live. Some (Some (HeapFull a.0.0 room.0 live.0), live.1)) (end, rest) b.2 in
    let d = some_bind (text_at (codes " live ") c.0.1) (λ last. amount_at last >>= λ live. Some (Some (HeapFull a.0.0 c.0.0 live.0), live.1)) (end, rest) c.2 in
    let f = some_bind (amount_at d.0) (λ live. Some (Some (HeapFull a.0.0 c.0.0 live.0), live.1)) (end, rest) d.2 in
    let asked = amount_takes bytes a.0.0 a.0.1 a.1 in
    let middle = text_takes (codes " room ") a.0.1 b.0 b.1 in
    let room = amount_takes b.0 c.0.0 c.0.1 c.1 in
    let last = text_takes (codes " live ") c.0.1 d.0 d.1 in
    let live = amount_takes d.0 f.0.0 f.0.1 f.1 in
    let whole : bytes ≡ full_numbers a.0.0 c.0.0 f.0.0 f.0.1 =
    asked.0 ∙ ap (λ (t : List ℕ). decimal a.0.0 ++ t) (middle ∙ ap (λ (t : List ℕ). codes " room " ++ t) (room.0 ∙ ap (λ (t : List ℕ). decimal c.0.0 ++ t) (last ∙ ap (λ (t : List ℕ). codes " live " ++ t) live.0))) in
    let P : Option End × List ℕ → Type 0 = λ q. Taken (codes "heap full asked " ++ bytes) q.0 q.1 in
    subst P (some_is {A = Option End × List ℕ} (Some (HeapFull a.0.0 c.0.0 f.0.0), f.0.1) (end, rest) f.2)
    (ap (λ (t : List ℕ). codes "heap full asked " ++ t) whole ∙ sym (regroup a.0.0 c.0.0 f.0.0 f.0.1), (asked.1, room.1, live.1))

-- ---- an end

-- an end that is told has its text, or the other has
told_takes : (this : Option End) (bytes : List ℕ) (other : Option (Option End × List ℕ)) (end : Option End) (rest : List ℕ) → EndFits this → (other ≡ Some (end, rest) → Taken bytes end rest) → told this bytes other ≡ Some (end, rest) → Taken bytes end rest
told_takes this bytes other end rest fits later e =
    let P : Option (List ℕ) → Type 0 = λ o. text_at (end_text this) bytes ≡ o → chosen o (λ rest. Some (this, rest)) other ≡ Some (end, rest) → Taken bytes end rest in
    let Q : Option End × List ℕ → Type 0 = λ q. Taken bytes q.0 q.1 in
    elim (text_at (end_text this) bytes) as P [
      | Some r ↦ λ is h. subst Q (some_is {A = Option End × List ℕ} (this, r) (end, rest) h) (text_takes (end_text this) bytes r is, fits)
      | None ↦ λ _ h. later h
    ] refl e

nothing_is_read : (bytes : List ℕ) (end : Option End) (rest : List ℕ) → ◌≡◌ {A = Option (Option End × List ℕ)} None (Some (end, rest)) → Taken bytes end rest
nothing_is_read bytes end rest e = absurd cc

last_takes : (bytes : List ℕ) (end : Option End) (rest : List ℕ) → chosen (text_at (codes "heap full asked ") bytes) full_end_at None ≡ Some (end, rest) → Taken bytes end rest
last_takes bytes end rest e =
    let P : Option (List ℕ) → Type 0 = λ o. text_at (codes "heap full asked ") bytes ≡ o → chosen o full_end_at None ≡ Some (end, rest) → Taken bytes end rest in
    let Q : List ℕ → Type 0 = λ whole. Taken whole end rest in
    elim (text_at (codes "heap full asked ") bytes) as P [
      | Some r ↦ λ is h. subst Q (sym (text_takes (codes "heap full asked ") bytes r is)) (full_takes r end rest h)
      | None ↦ λ _ h. nothing_is_read bytes end rest h
    ] refl e

pub end_takes : (bytes : List ℕ) (end : Option End) (rest : List ℕ) → end_at bytes ≡ Some (end, rest) → (bytes ≡ end_text end ++ rest) × EndFits end
unfolding end_at
end_takes bytes end rest e =
    let full = chosen (text_at (codes "heap full asked ") bytes) full_end_at None in
    let o10 = told (Some OutputFull) bytes full in
    let o9 = told (Some TurnsOut) bytes o10 in
    let o8 = told (Some JumpOut) bytes o9 in
    let o7 = told (Some ZeroDivisor) bytes o8 in
    let o6 = told (Some IntoRaw) bytes o7 in
    let o5 = told (Some WeakCell) bytes o6 in
    let o4 = told (Some OutOfRange) bytes o5 in
    let o3 = told (Some NotNumber) bytes o4 in
    let o2 = told (Some NotPointer) bytes o3 in
    let o1 = told (Some Halt) bytes o2 in
    told_takes None bytes o1 end rest tt
    (told_takes (Some Halt) bytes o2 end rest tt
    (told_takes (Some NotPointer) bytes o3 end rest tt
    (told_takes (Some NotNumber) bytes o4 end rest tt
    (told_takes (Some OutOfRange) bytes o5 end rest tt
    (told_takes (Some WeakCell) bytes o6 end rest tt
    (told_takes (Some IntoRaw) bytes o7 end rest tt
    (told_takes (Some ZeroDivisor) bytes o8 end rest tt
    (told_takes (Some JumpOut) bytes o9 end rest tt
    (told_takes (Some TurnsOut) bytes o10 end rest tt
    (told_takes (Some OutputFull) bytes full end rest tt
    (last_takes bytes end rest))))))))))) e

-- ---- again

pub end_again : (end : Option End) (rest : List ℕ) → EndFits end → Stops rest → end_at (end_text end ++ rest) ≡ Some (end, rest)
unfolding end_at full_end_at
end_again (Some (HeapFull asked room live)) rest fits stop =
    ap end_at (regroup asked room live rest)
    ∙ rw (
      amount_again asked (codes " room " ++ (decimal room ++ (codes " live " ++ (decimal live ++ rest)))) fits.0 refl,
      amount_again room (codes " live " ++ (decimal live ++ rest)) fits.1 refl,
      amount_again live rest fits.2 stop,
    ) refl
end_again _ rest fits stop = refl

-- the text of an end is no number's
pub no_number : (limit : ℕ) (end : Option End) (rest : List ℕ) → decimal_at limit (end_text end ++ rest) ≡ None
unfolding decimal_at numeral_at
no_number limit (Some Halt) rest = refl
no_number limit _ rest = refl
