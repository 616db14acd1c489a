-- What alone holds an access up: a lost exchange, after which it loads again, or a word that can't be there.
use Rattle.std.specs.Prelude.{◌≡◌, ◌≢◌, ℕ, ⊤, is_some, false, List}
use Rattle.atom_store.specs.declared.reply.Reply.{Reply}
use Rattle.atom_store.specs.declared.reply.Reply.TheVariants.{Value, Lost}
use Rattle.atom_store.specs.declared.step.Step.TheVariants.{Load}
use Rattle.atom_store.specs.declared.turn.Turn.TheVariants.{More, Finished}
use Rattle.atom_store.specs.Step.{reply_of}
use Rattle.heap_words.specs.Decoded.{decode, number_in}
use Rattle.heap_words.specs.Word.{number_word}
use Rattle.heap_state.specs.Meaning.Loaded.{word_held}
use Rattle.space_map.specs.Table.{HeapWord, place_of}
use Rattle.record_access.specs.declared.access.Access.{Access}
use Rattle.record_access.specs.declared.access_stage.AccessStage.{AccessStage}
use Rattle.record_access.specs.declared.access_stage.AccessStage.TheVariants.{LoadsHeader, LoadsCount, LoadsForCas, ExchangesField, LoadsForSwap, SwapsBoard}
use Rattle.record_access.specs.declared.accessed.Accessed.TheVariants.{Brings}
use Rattle.record_access.specs.declared.board_access.BoardSwap.{BoardSwap}
use Rattle.record_access.specs.declared.field_access.FieldAccess.{FieldAccess}
use Rattle.record_access.specs.declared.field_access.FieldExchange.{FieldExchange}
use Rattle.record_access.specs.Access.{advances_at, at_stage, board_at, field_at, is_header, role_of, taken, told, wanted}

abbrev pub IsHeldUp : AccessStage → Reply → Type 0
IsHeldUp (LoadsHeader r) (Value word) = is_header (decode word) ≡ false
IsHeldUp (LoadsCount m) (Value word) = is_some (number_in (decode word)) ≡ false
IsHeldUp (ExchangesField f e old) (Lost word) = ⊤
IsHeldUp (SwapsBoard s old) (Lost word) = ⊤
IsHeldUp stage reply = ⊥

-- whatever words a step meets, its reply ends the access, takes it on, where what is left falls, or is one of those that hold it up
abbrev pub AccessesGoOn : Type 0
AccessesGoOn = (a : Access) (met : List ℕ) → told a (reply_of (wanted a) met) ≡ More
    → advances_at a.stage (reply_of (wanted a) met) ≡ false → IsHeldUp a.stage (reply_of (wanted a) met)

-- An exchange of a word of the board for which this one was read, and that found another: the access loads the word again, and its next
-- exchange is from the word that it then reads.
pub record LoadsAgain (a : Access) (s : BoardSwap) (old found : ℕ) : Type 0 where
  pub more : told (at_stage a (SwapsBoard s old)) (Lost found) ≡ More
  pub goes_back : taken (at_stage a (SwapsBoard s old)) (Lost found) ≡ at_stage a (LoadsForSwap s)
  pub loads : wanted (at_stage a (LoadsForSwap s)) ≡ Load (place_of a.spaces.pages (HeapWord (board_at a.spaces s.word)))
  pub then_from : (word : ℕ) → taken (at_stage a (LoadsForSwap s)) (Value word) ≡ at_stage a (SwapsBoard s word)

-- The same of a field. Its next exchange is from the word that it then reads, or, if that isn't what is expected, there is none.
pub record ComparesAgain (a : Access) (f : FieldAccess) (e : FieldExchange) (old found : ℕ) : Type 0 where
  pub more : told (at_stage a (ExchangesField f e old)) (Lost found) ≡ More
  pub goes_back : taken (at_stage a (ExchangesField f e old)) (Lost found) ≡ at_stage a (LoadsForCas f e)
  pub loads : wanted (at_stage a (LoadsForCas f e)) ≡ Load (place_of a.spaces.pages (HeapWord (field_at f)))
  pub then_from : (word : ℕ) → word_held (role_of f.role) word ≡ e.expected → taken (at_stage a (LoadsForCas f e)) (Value word) ≡ at_stage a (ExchangesField f e word)
  pub else_fails : (word : ℕ) → word_held (role_of f.role) word ≢ e.expected → told (at_stage a (LoadsForCas f e)) (Value word) ≡ Finished (Brings e.into (number_word 0))

abbrev pub LostExchangesCompareAgain : Type 0
LostExchangesCompareAgain = (a : Access) (f : FieldAccess) (e : FieldExchange) (old found : ℕ) → ComparesAgain a f e old found

abbrev pub LostSwapsLoadAgain : Type 0
LostSwapsLoadAgain = (a : Access) (s : BoardSwap) (old found : ℕ) → LoadsAgain a s old found
