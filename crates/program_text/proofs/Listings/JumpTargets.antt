-- To which numbers of a section its jumps lead, as they are marked one after another.
use Rattle.std.proofs.Common.{◌≡◌, ℕ, ◌+◌, ◌<◌, ◌≤◌, Bool, true, ◌||◌, List, length, get_or, take, Some, IfSome, IsTrue, option_map, slice_get, arith, sym, ap}
use Rattle.std.specs.List.{list_any}
use Rattle.std.proofs.lemmas.Bool.{leb-true}
use Rattle.std.proofs.lemmas.List.Folds.{list_any_more}
use Rattle.std.proofs.lemmas.List.Sums.{AllPass-from_list_all}
use Rattle.mutator_asm.specs.declared.instr.Instr.{Instr}
use Rattle.mutator_asm.specs.declared.instr.Instr.TheVariants.{Jmp, Jz, Jal, Halt}
use Rattle.mutator_asm.specs.Listing.{jump_target, leads_to}
use Rattle.mutator_asm.specs.Program.{is_closed, leads_within}

-- a jump that stays in a section of n instructions leads to a number below n + 1
target_below : (n m : ℕ) (instr : Instr) → leads_within n instr ≡ true → m ≡ n + 1 → IfSome (jump_target instr) (λ t. t < m)
target_below n m (Jmp t) h e = omega (arith, leb-true t n h)
target_below n m (Jz a t) h e = omega (arith, leb-true t n h)
target_below n m (Jal d t) h e = omega (arith, leb-true t n h)
target_below n m Halt h e = tt
target_below n m instr h e = tt

-- each instruction of a closed section leads to a number that is kept, if to any
pub target_kept : (section : List Instr) (k m : ℕ) (d : Instr) → IsTrue (is_closed section) → k < length section → m ≡ length section + 1 → IfSome (jump_target (get_or section k d)) (λ t. t < m)
target_kept section k m d closed lt e = target_below (length section) m (get_or section k d) (AllPass-from_list_all (leads_within (length section)) section closed k d lt) e

-- one instruction more
pub marked_more : (old new : List Bool) (section : List Instr) (i : ℕ) (d : Instr) → i < length section
    → ((k : ℕ) → k ≤ length section → slice_get old k ≡ Some (list_any (leads_to k) (take i section)))
    → ((k : ℕ) → slice_get new k ≡ option_map (λ marked. marked || leads_to k (get_or section i d)) (slice_get old k))
    → (k : ℕ) → k ≤ length section → slice_get new k ≡ Some (list_any (leads_to k) (take (i + 1) section))
marked_more old new section i d lt before marked k le = rw (marked k, before k le) (ap Some (sym (list_any_more (leads_to k) section i d lt)))
