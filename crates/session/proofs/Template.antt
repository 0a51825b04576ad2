-- The FCP of each kind of entry: its bytes, that they are at most 20, and that an entry of a sound table has what the FCP needs. Assumes nothing.
use mathlib.Core.Path.{◌≡◌}
use mathlib.Core.Bool.{true}
use mathlib.Core.List.{List, [], ◌∷◌, ◌++◌}
use mathlib.Core.Logic.{⊎_elim}
use Prim.Native.Nat.{ℕ, ◌≤◌, ◌<◌}
use native.Mathlib.Nat.{eq-or-lt_of_le}
use native.Mathlib.Omega.{arith}
use lib.ListN.{length, length-append}
use borrow.Author.Tests.{eqb-true, ne_eqb}
use Rattle.octets.specs.Choice.{pick}
use Rattle.octets.specs.Bytes.{bytes2}
use Rattle.octets.proofs.Picks.{on_pick}
use Rattle.card.specs.declared.Row.{Row}
use Rattle.card.specs.Row.{entries, row_of, is_directory, is_transparent, has_records}
use Rattle.card.specs.Sound.{record_count, sound_table}
use Rattle.card.proofs.Promises.{directory-kind, kind-is_file, file_no_directory, record_some, records-few, entry_own, entry-kind}
use Rattle.session.specs.Fcp.{descriptor, fcp82, fcp83, fcp8a, fcp80, fcp_body, fcp}
use Rattle.session.specs.Promised.{FcpFits}

module _ (r : Row) where
  pub directory-fcp : is_directory r ≡ true → 0x62 ∷ 11 ∷ 0x82 ∷ 2 ∷ 0x78 ∷ 0x21 ∷ (fcp83 r ++ fcp8a r) ≡ fcp r
  unfolding fcp fcp_body fcp82 fcp83 fcp8a fcp80 descriptor bytes2 pick
  directory-fcp h =
      let k = directory-kind r h in
      rw (h, ne_eqb r.kind 5 (omega arith), ne_eqb r.kind 6 (omega arith))

  pub transparent_fcp : is_transparent r ≡ true → 0x62 ∷ 15 ∷ 0x82 ∷ 2 ∷ 0x41 ∷ 0x21 ∷ (fcp83 r ++ (fcp8a r ++ (0x80 ∷ 2 ∷ bytes2 r.size))) ≡ fcp r
  unfolding fcp fcp_body fcp82 fcp83 fcp8a fcp80 descriptor bytes2 pick
  transparent_fcp h = rw (eqb-true r.kind 4 h)

  pub linear_descriptor : r.kind ≡ 5 → 0x42 ≡ descriptor r
  unfolding descriptor pick
  linear_descriptor h = rw h

  pub cyclic-descriptor : r.kind ≡ 6 → 0x46 ≡ descriptor r
  unfolding descriptor pick
  cyclic-descriptor h = rw h

  pub kind-has_records : 5 ≤ r.kind → r.kind ≤ 6 → has_records r ≡ true
  kind-has_records h g = ⊎_elim (λ e. rw (← e)) (λ l. let e : r.kind ≡ 6 = omega arith in rw e) (eq-or-lt_of_le h)

  pub records-fcp : 5 ≤ r.kind → r.kind ≤ 6 → 0x62 ∷ 18 ∷ 0x82 ∷ 5 ∷ descriptor r ∷ 0x21 ∷ (bytes2 r.record_length ++ (record_count r ∷ (fcp83 r ++ (fcp8a r ++ (0x80 ∷ 2 ∷ bytes2 r.size))))) ≡ fcp r
  unfolding fcp fcp_body fcp82 fcp83 fcp8a fcp80 bytes2 pick
  records-fcp h g =
      rw (kind-has_records h g, file_no_directory r (kind-is_file r (omega arith) g))

  pub fcp-short : length (fcp r) ≤ 20
  unfolding fcp fcp_body fcp82 fcp83 fcp8a fcp80 bytes2
  fcp-short =
      simp length-append
      (omega (arith, on_pick (λ (bs : List ℕ). length bs ≤ 7) (has_records r) (0x82 ∷ 5 ∷ descriptor r ∷ 0x21 ∷ (bytes2 r.record_length ++ (record_count r ∷ []))) (0x82 ∷ 2 ∷ descriptor r ∷ 0x21 ∷ []) (λ h. omega arith) (λ h. omega arith), on_pick (λ (bs : List ℕ). length bs ≤ 4) (is_directory r) [] (0x80 ∷ 2 ∷ bytes2 r.size) (λ h. omega arith) (λ h. omega arith)))

pub fcp-fits : (t files : List ℕ) → sound_table t files ≡ true → (e : ℕ) → e < entries t → FcpFits (row_of t e)
fcp-fits t files sound e here =
    let k = entry-kind t files sound e here in
    record {
      least = k.0;
      most = k.1;
      records = λ h.
          let own = entry_own t files sound e here in
          let has = kind-has_records (row_of t e) h k.1 in
          let few = records-few (length files) (row_of t e) own has in
          (record_some (length files) (row_of t e) own has, omega arith);
    }
