-- What a copy's address comes from.
use Rattle.std.proofs.Common.{◌≡◌, ℕ, Some, refl, sym, ap, ◌∙◌, subst, ◌⊎◌, inl, inr}
use Rattle.atom_store.specs.declared.reply.Reply.{Reply}
use Rattle.atom_store.specs.declared.reply.Reply.TheVariants.{Value, Done, Won}
use Rattle.atom_store.specs.declared.turn.Turn.TheVariants.{More, Finished}
use Rattle.heap_words.specs.Decoded.{Decoded, HeaderWord, ForwardWord, decode}
use Rattle.space_map.specs.declared.area_word.AreaWord.{AreaWord}
use Rattle.heap_words.specs.Word.{busy_word}
use Rattle.space_map.specs.AreaWord.{encode_area}
use Rattle.space_map.specs.Spaces.{to_space}
use Rattle.space_map.specs.Table.{Area, HeapWord}
use Rattle.atom_store.specs.declared.step.Step.TheVariants.{Exchange}
use Rattle.forwarding.specs.declared.evac_stage.EvacStage.{EvacStage}
use Rattle.forwarding.specs.declared.evac_stage.EvacStage.TheVariants.{LoadsHeader, TakesHeader, Announces, Reserves, StoresHeader, LoadsWord, StoresWord, StoresCross, StoresForward, Clears, Ended}
use Rattle.forwarding.specs.declared.kept_header.KeptHeader.{KeptHeader}
use Rattle.forwarding.specs.declared.to.To.{To}
use Rattle.forwarding.specs.Evacuation.{IsGoing, area_past, front_of, size_of, wanted_at}
use Rattle.forwarding.specs.Keeping.{address_reserved, header_kept}
use Rattle.forwarding.specs.Taken.{by_first_word, told}
use Rattle.forwarding.specs.Theorems.{FollowsForwards, EndsBehindForwards, ReadsHeaders, TakesByExchange, AnnouncesFirst, ReservesByExchange, place}
use Rattle.forwarding.specs.declared.reserved.Reserved.{Reserved}
use Rattle.atom_store.specs.declared.turn.Turn.{Turn}
use Rattle.forwarding.proofs.CopyStages.{IsBeingCopied, of_each_way}

-- ---- forwards

address_told : Turn To → ℕ
address_told (Finished to) = to.0
address_told More = 0

tells : (w to : ℕ) (d : Decoded) → told (by_first_word w d) ≡ Finished (record { 0 = to }) → (len : ℕ) × (d ≡ ForwardWord len to)
unfolding address_told
tells w to (ForwardWord len a) is = (len, ap (λ t. ForwardWord len (address_told t)) is)
tells w to _ is = absurd (cc)

pub follows_forwards : FollowsForwards
follows_forwards v word to begins =
    rw begins (λ is. tells word to (decode word) is, λ f. ap (λ d. told (by_first_word word d)) f.1)

-- ---- the end

no_copy : (r : Reserved) (x y : EvacStage) → IsBeingCopied r x → x ≡ y → ¬ (IsBeingCopied r y) → ⊥
no_copy r x y copies is never = never (subst (IsBeingCopied r) is copies)

pub ends_behind_forwards : EndsBehindForwards
ends_behind_forwards v reply to =
    let P : EvacStage → Reply → EvacStage → Type 0 = λ x reply z. IsGoing x → z ≡ Ended to → (x ≡ LoadsHeader) ⊎ ((x ≡ Clears to) × (reply ≡ Done)) in
    of_each_way v.layout v.epoch P (record {
      stays = λ x reply going is. absurd (subst IsGoing is going);
      follows = λ w len a f going is. inl refl;
      finds = λ w kind len serial mutator f going is. inl refl;
      takes = λ kept going is. absurd (cc);
      is_late = λ kept w going is. absurd (cc);
      aims = λ kept w area going is. absurd (cc);
      announces = λ kept area going is. absurd (cc);
      reserves = λ kept area going is. absurd (cc);
      tries_again = λ kept area w other same going is. absurd (cc);
      aims_again = λ kept area w other going is. absurd (cc);
      copies = λ r x reply z copies_x copies_z going is. absurd (no_copy r z (Ended to) copies_z is (λ n. n));
      forwards = λ r plain going is. absurd (cc);
      forwards_cell = λ r cell going is. absurd (cc);
      reads_weak = λ a head going is. absurd (cc);
      stores_link = λ a head going is. absurd (cc);
      links = λ a head going is. absurd (cc);
      links_again = λ a head other going is. absurd (cc);
      clears = λ a going is. inr ((let same : a ≡ to = cc in ap Clears same), refl);
    }) v.stage reply

-- ---- headers

pub reads_headers : ReadsHeaders
reads_headers v reply kept =
    let P : EvacStage → Reply → EvacStage → Type 0 = λ x reply z. z ≡ TakesHeader kept
    → (x ≡ TakesHeader kept)
    ⊎ ((x ≡ LoadsHeader) × (reply ≡ Value kept.word) × ((serial : ℕ) × (mutator : ℕ) × (decode kept.word ≡ HeaderWord kept.kind kept.len serial mutator))) in
    of_each_way v.layout v.epoch P (record {
      stays = λ x reply is. inl is;
      follows = λ w len a f is. absurd (cc);
      finds = λ w kind len serial mutator f is.
          let same : record { word = w; kind = kind; len = len } ≡ kept = cc in
          inr (
            refl,
            ap (λ (k : KeptHeader). Value k.word) same,
            (serial, mutator, subst (λ (k : KeptHeader). decode k.word ≡ HeaderWord k.kind k.len serial mutator) same f),
          );
      takes = λ of is. absurd (cc);
      is_late = λ of w is. absurd (cc);
      aims = λ of w area is. absurd (cc);
      announces = λ of area is. absurd (cc);
      reserves = λ of area is. absurd (cc);
      tries_again = λ of area w other same is. absurd (cc);
      aims_again = λ of area w other is. absurd (cc);
      copies = λ r x reply z copies_x copies_z is. absurd (no_copy r z (TakesHeader kept) copies_z is (λ n. n));
      forwards = λ r plain is. absurd (cc);
      forwards_cell = λ r cell is. absurd (cc);
      reads_weak = λ a head is. absurd (cc);
      stores_link = λ a head is. absurd (cc);
      links = λ a head is. absurd (cc);
      links_again = λ a head other is. absurd (cc);
      clears = λ a is. absurd (cc);
    }) v.stage reply

-- a copy keeps its header and its address
header_kept-copying : (r : Reserved) (x : EvacStage) → IsBeingCopied r x → header_kept x ≡ Some r.kept
header_kept-copying r (StoresHeader of) is = ap (λ (z : Reserved). Some z.kept) is
header_kept-copying r (LoadsWord of i) is = ap (λ (z : Reserved). Some z.kept) is
header_kept-copying r (StoresWord of w) is = ap (λ (z : Reserved). Some z.kept) is
header_kept-copying r (StoresCross of page) is = ap (λ (z : Reserved). Some z.kept) is
header_kept-copying r (StoresForward of) is = ap (λ (z : Reserved). Some z.kept) is
header_kept-copying r _ is = absurd is

address_reserved-copying : (r : Reserved) (x : EvacStage) → IsBeingCopied r x → address_reserved x ≡ Some r.to
address_reserved-copying r (StoresHeader of) is = ap (λ (z : Reserved). Some z.to) is
address_reserved-copying r (LoadsWord of i) is = ap (λ (z : Reserved). Some z.to) is
address_reserved-copying r (StoresWord of w) is = ap (λ (z : Reserved). Some z.to) is
address_reserved-copying r (StoresCross of page) is = ap (λ (z : Reserved). Some z.to) is
address_reserved-copying r (StoresForward of) is = ap (λ (z : Reserved). Some z.to) is
address_reserved-copying r _ is = absurd is

pub takes_by_exchange : TakesByExchange
takes_by_exchange v reply kept =
    let P : EvacStage → Reply → EvacStage → Type 0 = λ x reply z. header_kept z ≡ Some kept
    → (header_kept x ≡ Some kept)
    ⊎ ((reply ≡ Won) × (x ≡ TakesHeader kept)
    × (wanted_at v.layout v.addr v.epoch v.worker x ≡ Some (Exchange (place v (HeapWord v.addr)) kept.word (busy_word kept.len v.worker)))) in
    of_each_way v.layout v.epoch P (record {
      stays = λ x reply is. inl is;
      follows = λ w len a f is. absurd (cc);
      finds = λ w kind len serial mutator f is. absurd (cc);
      takes = λ of is.
          let same : of ≡ kept = cc in
          inr (refl, ap TakesHeader same, ap (λ (k : KeptHeader). Some (Exchange (place v (HeapWord v.addr)) k.word (busy_word k.len v.worker))) same);
      is_late = λ of w is. absurd (cc);
      aims = λ of w area is. inl is;
      announces = λ of area is. inl is;
      reserves = λ of area is. inl is;
      tries_again = λ of area w other same is. inl is;
      aims_again = λ of area w other is. inl is;
      copies = λ r x reply z copies_x copies_z is. inl (header_kept-copying r x copies_x ∙ sym (header_kept-copying r z copies_z) ∙ is);
      forwards = λ r plain is. absurd (cc);
      forwards_cell = λ r cell is. absurd (cc);
      reads_weak = λ a head is. absurd (cc);
      stores_link = λ a head is. absurd (cc);
      links = λ a head is. absurd (cc);
      links_again = λ a head other is. absurd (cc);
      clears = λ a is. absurd (cc);
    }) v.stage reply

-- ---- the address

pub announces_first : AnnouncesFirst
announces_first v reply kept area =
    let P : EvacStage → Reply → EvacStage → Type 0 = λ x reply z. z ≡ Reserves kept area
    → ((other : AreaWord) × (x ≡ Reserves kept other) × (other.front ≡ area.front))
    ⊎ ((reply ≡ Done) × (x ≡ Announces kept area)
    × (wanted_at v.layout v.addr v.epoch v.worker x ≡ wanted_at v.layout v.addr v.epoch v.worker (Announces kept area))) in
    of_each_way v.layout v.epoch P (record {
      stays = λ x reply is. inl (area, is, refl);
      follows = λ w len a f is. absurd (cc);
      finds = λ w kind len serial mutator f is. absurd (cc);
      takes = λ of is. absurd (cc);
      is_late = λ of w is. absurd (cc);
      aims = λ of w seen is. absurd (cc);
      announces = λ of seen is.
          let same_kept : of ≡ kept = cc in
          let same : seen ≡ area = cc in
          inr (refl, (cc), ap (λ (z : AreaWord). wanted_at v.layout v.addr v.epoch v.worker (Announces kept z)) same);
      reserves = λ of seen is. absurd (cc);
      tries_again = λ of seen w other front is.
          let same_kept : of ≡ kept = cc in
          let same : other ≡ area = cc in
          inl (seen, ap (λ (z : KeptHeader). Reserves z seen) same_kept, sym front ∙ ap (λ (z : AreaWord). z.front) same);
      aims_again = λ of seen w other is. absurd (cc);
      copies = λ r x reply z copies_x copies_z is. absurd (no_copy r z (Reserves kept area) copies_z is (λ n. n));
      forwards = λ r plain is. absurd (cc);
      forwards_cell = λ r cell is. absurd (cc);
      reads_weak = λ a head is. absurd (cc);
      stores_link = λ a head is. absurd (cc);
      links = λ a head is. absurd (cc);
      links_again = λ a head other is. absurd (cc);
      clears = λ a is. absurd (cc);
    }) v.stage reply

pub reserves_by_exchange : ReservesByExchange
reserves_by_exchange v reply to =
    let P : EvacStage → Reply → EvacStage → Type 0 = λ x reply z. address_reserved z ≡ Some to
    → (address_reserved x ≡ Some to)
    ⊎ ((kept : KeptHeader) × (area : AreaWord) × (reply ≡ Won) × (x ≡ Reserves kept area) × (to ≡ front_of v.layout v.epoch area)
    × (wanted_at v.layout v.addr v.epoch v.worker x
    ≡ Some (Exchange (place v (Area (to_space v.epoch))) (encode_area area) (encode_area (area_past (size_of kept) area))))) in
    of_each_way v.layout v.epoch P (record {
      stays = λ x reply is. inl is;
      follows = λ w len a f is. absurd (cc);
      finds = λ w kind len serial mutator f is. absurd (cc);
      takes = λ of is. absurd (cc);
      is_late = λ of w is. absurd (cc);
      aims = λ of w seen is. absurd (cc);
      announces = λ of seen is. absurd (cc);
      reserves = λ of seen is. inr (of, seen, refl, refl, (cc), refl);
      tries_again = λ of seen w other front is. absurd (cc);
      aims_again = λ of seen w other is. absurd (cc);
      copies = λ r x reply z copies_x copies_z is. inl (address_reserved-copying r x copies_x ∙ sym (address_reserved-copying r z copies_z) ∙ is);
      forwards = λ r plain is. absurd (cc);
      forwards_cell = λ r cell is. absurd (cc);
      reads_weak = λ a head is. absurd (cc);
      stores_link = λ a head is. absurd (cc);
      links = λ a head is. absurd (cc);
      links_again = λ a head other is. absurd (cc);
      clears = λ a is. absurd (cc);
    }) v.stage reply
