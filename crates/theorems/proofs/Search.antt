-- What is promised of ident's search (request 3), as Theorems.antt has it for the calls: `looked_in` is the number that `mast_ident_looked` hands back beside
-- the answer of `mast_ident`.
use mathlib.Core.Path.{◌≡◌}
use mathlib.Core.Bool.{true, false}
use mathlib.Core.List.{List}
use mathlib.Core.Logic.{◌≢◌}
use Prim.Native.Nat.{ℕ, suc, ◌*◌}
use lib.Dec.{eqb}
use lib.ListN.{length, take}
use Rattle.laws.specs.Choose.{◌and◌}
use Rattle.laws.specs.Rows.{tabulate}
use Rattle.rules.specs.declared.Call.TheVariants.{Ident}
use Rattle.rules.specs.Machine.{unstarted, slot_of, is_live, id_of}
use Rattle.rules.specs.Calls.{searched_slots}
use Rattle.tables.specs.Layout.{slot_place, laid, model_of}
use Rattle.lookup.specs.Search.{last_look, search_length, Reaches}
use Rattle.lookup.proofs.LastLook as looking
use Rattle.agreement.specs.Bytes.{agrees_bytes}
use Rattle.manager.specs.Entry.{reply_to, looked_in}
use Rattle.manager.proofs.Looking as searches

pub nothing_searched : (bs : List ℕ) (name : ℕ) → agrees_bytes bs ≡ false → looked_in bs name ≡ 0
nothing_searched = searches.unsearched

pub no_name_searched : (bs : List ℕ) → looked_in bs 0 ≡ 0
no_name_searched = searches.unsearched_nameless

pub unstarted_searched : (name : ℕ) → looked_in (laid unstarted) name ≡ 0
unstarted_searched = searches.unsearched_unstarted

-- slot k is looked at exactly for k from 1 up to the number, in turn and once (of the definition; the code counts its own looks, and docs/DECISIONS.md says
-- how one sees that it reads no slot besides)
pub searched_in_turn : (bs : List ℕ) (name : ℕ) → agrees_bytes bs ≡ true → name ≢ 0
    → searched_slots name (model_of bs).slots 1 ≡ tabulate (looked_in bs name) suc
searched_in_turn = searches.searched_in_turn

-- the last is the match, whose identifier is the value; if none matches, all S were looked at
pub searched_to_the_match : (bs : List ℕ) (name : ℕ) (priorities : List ℕ) → agrees_bytes bs ≡ true
    → let a = (reply_to bs (Ident name) priorities).answer in let s = slot_of (model_of bs) (looked_in bs name) in
    a.status ≡ 0 → ((is_live s and eqb s.name name) ≡ true) × (a.value ≡ id_of (looked_in bs name) s)
searched_to_the_match = searches.searched_to_the_match

pub searched_all : (bs : List ℕ) (name : ℕ) (priorities : List ℕ) → agrees_bytes bs ≡ true → name ≢ 0
    → (reply_to bs (Ident name) priorities).answer.status ≡ 3 → looked_in bs name ≡ length (model_of bs).slots
searched_all = searches.searched_all

-- the search asks for bytes that `Reaches`, and these may end with the slot looked at last: it gives the same there, so it reads nothing behind
pub search_needs_no_more : (bs : List ℕ) (slots name : ℕ) → Reaches bs slots name
    → let cut = take (4 * slot_place (search_length (model_of bs) name)) bs in
    Reaches cut slots name × (last_look cut (search_length (model_of cut) name) ≡ last_look bs (search_length (model_of bs) name))
search_needs_no_more bs slots name r = (looking.cut_reaches bs slots name r, looking.cut_last bs slots name r)
