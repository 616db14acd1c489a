-- What holds of each state that a program comes to.
use Rattle.std.specs.Prelude.{ℕ, List, IsTrue}
use Rattle.std.specs.List.{list_all}
use Rattle.plain_state.specs.Consistent.{IsConsistent}
use Rattle.mutator_asm.specs.declared.instr.Instr.{Instr}
use Rattle.mutator_asm.specs.Program.{is_valid}
use Rattle.plain_heap.specs.declared.mark.Mark.{Mark}
use Rattle.plain_heap.specs.Order.{Story, opening, plain, story_marked}

-- a program begins in a consistent state
abbrev pub OpensConsistent : Type 0
OpensConsistent = (code : List (List Instr)) → IsConsistent (opening code)

-- a mark keeps the present state consistent
abbrev pub MarksKeepConsistent : Type 0
MarksKeepConsistent = (code : List (List Instr)) (turns : ℕ) (s : Story) (mark : Mark) → IsTrue (list_all (list_all is_valid) code)
    → IsConsistent s.now → IsConsistent (story_marked code turns s mark).now

-- whatever the order, a program comes to a consistent state
abbrev pub RunsStayConsistent : Type 0
RunsStayConsistent = (code : List (List Instr)) (turns : ℕ) (order : List Mark) → IsTrue (list_all (list_all is_valid) code)
    → IsConsistent (plain code turns order)
