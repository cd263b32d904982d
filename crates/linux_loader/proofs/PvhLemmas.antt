-- Program headers of notes, one after the other, up to the first that leads to the PVH entry.
use Rattle.std.proofs.Common.{◌≡◌, ◌∙◌, ℕ, suc, ◌+◌, ◌<◌, ◌≤◌, List, [], ◌∷◌, add-one, drop, length, get_or, Option, Some, None, Result, Ok, Err, ap, inl, inr, refl, sym}
use Rattle.std.proofs.Math.Seq.{drop-cons}
use Rattle.std.proofs.lemmas.List.{drop_all}
use Rattle.linux_loader.specs.Elf.{entry_of, pvh_entry}
use Rattle.linux_loader.specs.Error.{and_then}
use Rattle.linux_loader.specs.Notes.{or_else}
use Rattle.linux_loader.specs.Plan.{Answers}
use Rattle.linux_loader.specs.declared.elf.header.ProgramHeader.{ProgramHeader}
use Rattle.linux_loader.specs.declared.error.LoaderError.{LoaderError}

module _ (all : List ℕ) where
  one : (p : ProgramHeader) (ps : List ProgramHeader)
      → pvh_entry all (p ∷ ps) ≡ and_then (entry_of all p) (λ found. or_else found (pvh_entry all ps))
  unfolding pvh_entry
  one p ps = refl

  pub pvh_none : pvh_entry all [] ≡ Ok None
  unfolding pvh_entry
  pvh_none = refl

  at : (headers : List ProgramHeader) (i : ℕ) (d : ProgramHeader) → i < length headers
      → pvh_entry all (drop i headers)
      ≡ and_then (entry_of all (get_or headers i d)) (λ found. or_else found (pvh_entry all (drop (i + 1) headers)))
  at headers i d l = rw add-one
      (ap (pvh_entry all) (drop-cons headers i d l) ∙ one (get_or headers i d) (drop (suc i) headers))

-- the bytes of an image are kept, and what comes of the program headers from a place on comes of all
pub record Sought (old now : Option (List ℕ)) (size : ℕ) (headers : List ProgramHeader) (i : ℕ) : Type 0 where
  pub kept : (all : List ℕ) → old ≡ Some all → now ≡ Some all
  pub is : (all : List ℕ) → old ≡ Some all → size ≡ length all
      → pvh_entry all headers ≡ pvh_entry all (drop i headers)

module _ (old now next : Option (List ℕ)) (size : ℕ) (headers : List ProgramHeader) (i : ℕ)
    (s : Sought old now size headers i) where
  -- what a program header at a place leads to
  abbrev Leads : ProgramHeader → Result (Option ℕ) LoaderError → Type 0
  Leads p found = (all : List ℕ) → now ≡ Some all
      → (next ≡ Some all) × (size ≡ length all → Answers (entry_of all p) found)

  module _ (d : ProgramHeader) (within : i < length headers) where
    failed : (all : List ℕ) (e : LoaderError) → Answers (entry_of all (get_or headers i d)) (Err e)
        → pvh_entry all headers ≡ pvh_entry all (drop i headers) → Answers (pvh_entry all headers) (Err e)
    failed all e (inl is) same = inl (sym (same ∙ at all headers i d within
        ∙ ap (λ (r : Result (Option ℕ) LoaderError). and_then r (λ found.
        or_else found (pvh_entry all (drop (i + 1) headers)))) (sym is)))
    failed all e (inr memory) same = inr memory

    pub sought_failed : (e : LoaderError) → Leads (get_or headers i d) (Err e)
        → (all : List ℕ) → old ≡ Some all
        → (next ≡ Some all) × (size ≡ length all → Answers (pvh_entry all headers) (Err e))
    sought_failed e leads all known =
        let h = leads all (s.kept all known) in (h.0, λ sized. failed all e (h.1 sized) (s.is all known sized))

    found_is : (all : List ℕ) (x : ℕ) → Answers (entry_of all (get_or headers i d)) (Ok (Some x))
        → pvh_entry all headers ≡ pvh_entry all (drop i headers) → Answers (pvh_entry all headers) (Ok (Some x))
    found_is all x (inl is) same = inl (sym (same ∙ at all headers i d within
        ∙ ap (λ (r : Result (Option ℕ) LoaderError). and_then r (λ found.
        or_else found (pvh_entry all (drop (i + 1) headers)))) (sym is)))
    found_is all x (inr memory) same = absurd (cc)

    pub sought_found : (x : ℕ) → Leads (get_or headers i d) (Ok (Some x))
        → (all : List ℕ) → old ≡ Some all
        → (next ≡ Some all) × (size ≡ length all → Answers (pvh_entry all headers) (Ok (Some x)))
    sought_found x leads all known =
        let h = leads all (s.kept all known) in (h.0, λ sized. found_is all x (h.1 sized) (s.is all known sized))

    on_is : (all : List ℕ) → Answers (entry_of all (get_or headers i d)) (Ok None)
        → pvh_entry all headers ≡ pvh_entry all (drop i headers)
        → pvh_entry all headers ≡ pvh_entry all (drop (i + 1) headers)
    on_is all (inl is) same = same ∙ at all headers i d within
        ∙ ap (λ (r : Result (Option ℕ) LoaderError). and_then r (λ found.
        or_else found (pvh_entry all (drop (i + 1) headers)))) (sym is)
    on_is all (inr memory) same = absurd (cc)

    pub sought_on : Leads (get_or headers i d) (Ok None) → Sought old next size headers (i + 1)
    sought_on leads = record {
      kept = λ all known. (leads all (s.kept all known)).0;
      is = λ all known sized. on_is all ((leads all (s.kept all known)).1 sized) (s.is all known sized);
    }

  ended : (all : List ℕ) → length headers ≤ i → pvh_entry all headers ≡ pvh_entry all (drop i headers)
      → Answers (pvh_entry all headers) (Ok None)
  ended all past same =
      inl (sym (same ∙ ap (pvh_entry all) (drop_all i headers past) ∙ pvh_none all))

  pub sought_ended : length headers ≤ i → (all : List ℕ) → old ≡ Some all
      → (now ≡ Some all) × (size ≡ length all → Answers (pvh_entry all headers) (Ok None))
  sought_ended past all known = (s.kept all known, λ sized. ended all past (s.is all known sized))

pub sought_first : (old : Option (List ℕ)) (size : ℕ) (headers : List ProgramHeader) → Sought old old size headers 0
sought_first old size headers = record { kept = λ all known. known; is = λ all known sized. refl }
