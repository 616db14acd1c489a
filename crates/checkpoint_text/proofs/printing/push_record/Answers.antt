use Rattle.std.proofs.Common.{◌≡◌, ℕ, ◌++◌, codes, decimal, length, string_bytes, sym, ap, ◌∙◌}
use lib.Utf8.{encode}
use Rattle.plain_heap.specs.Checkpoints.Checkpoint.{identity_text, kind_text, values_text}
use Rattle.checkpoint_text.specs.Records.{denoted_count, first_value, kind_with, values_read}
use Rattle.checkpoint_text.specs.Words.{saved_heap}
use Rattle.checkpoint_text.proofs.Pieces.{length_values, onto, onto_three}
use Rattle.checkpoint_text.proofs.printing.push_record.Goals as goal

pub returns : goal.returns
unfolding encode
returns c =
    let heap = saved_heap c.args.words.now in
    let r = c.args.saved in
    let t = string_bytes c.args.out.now in
    let values = values_read heap (first_value r) (denoted_count r) r.len in
    let name = identity_text r.identity in
    let kind = kind_text (kind_with r.kind r.fields) in
    let counted : string_bytes c.write.new.self ≡ string_bytes c.push_kind.new.out ++ (codes " " ++ (decimal (length values) ++ codes ":")) =
    c.in_ok-write.ensures.bytes ∙ ap (λ (n : ℕ). string_bytes c.push_kind.new.out ++ (codes " " ++ (decimal n ++ codes ":"))) (sym (length_values heap (first_value r) (denoted_count r) r.len)) in
    let told : string_bytes c.push_values.new.out ≡ string_bytes c.write.new.self ++ values_text values =
    c.in_ok-push_values.ensures ∙ ap (λ (f : ℕ). string_bytes c.write.new.self ++ values_text (values_read heap f c.denoted_count.result c.from.result)) c.first_value.ensures
    ∙ ap (λ (n : ℕ). string_bytes c.write.new.self ++ values_text (values_read heap (first_value r) n c.from.result)) c.denoted_count.ensures
    ∙ ap (λ (n : ℕ). string_bytes c.write.new.self ++ values_text (values_read heap (first_value r) (denoted_count r) n)) c.from.ensures in
    let one : string_bytes c.push.new.self ≡ t ++ (name ++ codes " ") = onto t _ _ name (codes " ") c.in_ok-push_identity.ensures c.in_ok-push.ensures.bytes in
    let two : string_bytes c.push_kind.new.out ≡ t ++ (name ++ codes " " ++ kind) = onto t _ _ (name ++ codes " ") kind one c.in_ok-push_kind.ensures in
    let three : string_bytes c.write.new.self ≡ t ++ (name ++ codes " " ++ kind ++ codes " " ++ decimal (length values) ++ codes ":") =
    onto_three t _ _ (name ++ codes " " ++ kind) (codes " ") (decimal (length values)) (codes ":") two counted in
    let four = onto t (string_bytes c.write.new.self) (string_bytes c.push_values.new.out) (name ++ codes " " ++ kind ++ codes " " ++ decimal (length values) ++ codes ":") (values_text values) three told in
    onto t (string_bytes c.push_values.new.out) (string_bytes c.push-2.new.self) (name ++ codes " " ++ kind ++ codes " " ++ decimal (length values) ++ codes ":" ++ values_text values) (codes "\n") four c.in_ok-push-2.ensures.bytes
