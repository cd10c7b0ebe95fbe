-- What is printed, by way of a text that is written out now and then. The functions that print cite these.
use Rattle.std.proofs.Common.{◌≡◌, ℕ, ◌+◌, ◌<◌, ◌∙◌, sym, ap, subst, List, [], ◌∷◌, ◌++◌, length, get_or, drop, suc, Option, Result, Ok, Err, OnOk, OnErr, refl, append_assoc, append-nil, add-one, drop-cons}
use Rattle.std.specs.Io.KnownBytes.{Keeps, Appends}
use Rattle.std.proofs.KnownBytes.{Appends-nil, Appends-trans, Appends-kept}
use Rattle.std.proofs.Common.{◌⊎◌, inl, inr}
use Rattle.debounce_model.specs.Command.{CommandValue, ReplyValue}
use Rattle.program_frame.specs.Whole.Output.{WritesFront}
use Rattle.mirror_run.specs.Output.{Prints, Begins}
use Rattle.mirror_run.specs.Printed.{replies_lines}

-- the text alone grew
pub prints_text : (a : Option (List ℕ)) (t u lines : List ℕ) → u ≡ t ++ lines → Prints a t a u lines
prints_text a t u lines e = record { written = []; appended = Appends-nil a; split = sym e }

-- the whole text was written
pub prints_out : (a b : Option (List ℕ)) (t u : List ℕ) → u ≡ [] → Appends a b t → Prints a t b u []
prints_out a b t u e h = record { written = t; appended = h; split = ap (λ k. t ++ k) (sym e) }

-- one after the other
pub prints_more : (a b c : Option (List ℕ)) (t u v l m : List ℕ) → Prints a t b u l → Prints b u c v m →
    Prints a t c v (l ++ m)
prints_more a b c t u v l m p q = record {
  written = p.written ++ q.written;
  appended = Appends-trans a b c p.written q.written p.appended q.appended;
  split = sym (append_assoc t l m) ∙ ap (λ k. k ++ m) p.split ∙ append_assoc p.written u m
      ∙ ap (λ k. p.written ++ k) q.split ∙ sym (append_assoc p.written q.written v);
}

-- a turn of a loop, in which the lines at the front of what is left are put behind the text, which is perhaps written
pub prints_turn : (a b c : Option (List ℕ)) (t u more v l rest before all : List ℕ) → before ≡ l ++ rest →
    Prints a t b (u ++ before) all → more ≡ u ++ l → Prints b more c v [] → Prints a t c (v ++ rest) all
prints_turn a b c t u more v l rest before all e p f q = record {
  written = p.written ++ q.written;
  appended = Appends-trans a b c p.written q.written p.appended q.appended;
  split = p.split ∙ ap (λ k. p.written ++ (u ++ k)) e ∙ ap (λ k. p.written ++ k) (sym (append_assoc u l rest))
      ∙ ap (λ k. p.written ++ (k ++ rest)) (sym f ∙ sym (append-nil more) ∙ q.split)
      ∙ ap (λ k. p.written ++ k) (append_assoc q.written v rest)
      ∙ sym (append_assoc p.written q.written (v ++ rest));
}

-- .. in which the output fails
pub begins_turn : (a b c : Option (List ℕ)) (t u more l rest before all : List ℕ) → before ≡ l ++ rest →
    Prints a t b (u ++ before) all → more ≡ u ++ l → Begins b more c [] → Begins a t c all
begins_turn a b c t u more l rest before all e p f q =
    record {
      left = q.left ++ rest;
      prints =
          prints_turn a b c t u more q.left l rest before all e p f q.prints;
    }

-- what is left is not printed
pub begins_left : (a b : Option (List ℕ)) (t u all : List ℕ) → Prints a t b u all → Begins a t b all
begins_left a b t u all p = record { left = u; prints = p }

-- .. nor what was to follow
pub begins_longer : (a b : Option (List ℕ)) (t l m : List ℕ) → Begins a t b l → Begins a t b (l ++ m)
begins_longer a b t l m p =
    record {
      left = p.left ++ m;
      prints =
          prints_more a b b t p.left (p.left ++ m) l m p.prints (prints_text b p.left (p.left ++ m) m refl);
    }

-- .. or a beginning of it is
pub begins_more : (a b c : Option (List ℕ)) (t u l m : List ℕ) → Prints a t b u l → Begins b u c m →
    Begins a t c (l ++ m)
begins_more a b c t u l m p q = record { left = q.left; prints = prints_more a b c t u q.left l m p q.prints }

-- before a loop all is left
pub prints_start : (a : Option (List ℕ)) (t before all : List ℕ) → before ≡ all → Prints a t a (t ++ before) all
prints_start a t before all e = prints_text a t (t ++ before) all (ap (λ k. t ++ k) e)

-- behind a loop nothing is left
pub prints_end : (a b : Option (List ℕ)) (t u rest all : List ℕ) → rest ≡ [] → Prints a t b (u ++ rest) all →
    Prints a t b u all
prints_end a b t u rest all e p = subst (λ k. Prints a t b k all) (ap (λ k. u ++ k) e ∙ append-nil u) p

-- the text is written, as the last
prints_last : (a b c : Option (List ℕ)) (u lines : List ℕ) → Prints a [] b u lines → Appends b c u →
    Appends a c lines
prints_last a b c u lines p h = subst (Appends a c) (sym p.split) (Appends-trans a b c p.written u p.appended h)

-- a text that began empty is written, as the last
pub prints_whole : (a b c : Option (List ℕ)) (t u v l m : List ℕ) → t ≡ [] → Prints a t b u l → v ≡ u ++ m →
    Appends b c v → Appends a c (l ++ m)
prints_whole a b c t u v l m e p f h =
    prints_last a b c v (l
    ++ m) (subst (λ k. Prints a k b v (l ++ m)) e (prints_more a b b t u v l m p (prints_text b u v m f))) h

-- .. or a beginning of it is
pub begins_whole : (a b c : Option (List ℕ)) (t u v l m : List ℕ) → t ≡ [] → Prints a t b u l → v ≡ u ++ m →
    Begins b v c [] → Begins a [] c (l ++ m)
begins_whole a b c t u v l m e p f h =
    subst (λ k. Begins a [] c k) (append-nil (l ++ m))
    (subst (λ k. Begins a k c ((l ++ m) ++ [])) e
    (begins_more a b c t v (l ++ m) [] (prints_more a b b t u v l m p (prints_text b u v m f)) h))

-- a text that began empty
pub begins_empty : (a b : Option (List ℕ)) (t all : List ℕ) → t ≡ [] → Begins a t b all → Begins a [] b all
begins_empty a b t all e p = subst (λ k. Begins a k b all) e p

-- all was written, and the output stayed so
pub begins_all : (a b c : Option (List ℕ)) (t : List ℕ) → Appends a b t → Keeps b c → Begins a t c []
begins_all a b c t h k = record { left = []; prints = prints_out a c t [] refl (Appends-kept a b c t h k) }

-- the item of a turn stands in front of what is left behind it
pub drop_item : {A : Type 0} (xs : List A) (i : ℕ) (x : A) → i < length xs → x ≡ get_or xs i x →
    drop i xs ≡ x ∷ drop (i + 1) xs
drop_item xs i x h e = rw add-one (drop-cons xs i x h ∙ ap (λ y. y ∷ drop (suc i) xs) (sym e))

-- what follows where a call succeeds
pub on_ok : {A E : Type 0} {P Q : Type 0} (r : Result A E) → (P → Q) → OnOk r P → OnOk r Q
on_ok (Ok x) f h = f h
on_ok (Err e) f h = h

-- .. and where it fails
pub on_err : {A E : Type 0} {P Q : Type 0} (r : Result A E) → (P → Q) → OnErr r P → OnErr r Q
on_err (Ok x) f h = h
on_err (Err e) f h = f h

-- a front of the text was written
pub begins_front : (a b : Option (List ℕ)) (t : List ℕ) → WritesFront a t b → Begins a t b []
begins_front a b t p = record {
  left = p.rest;
  prints = record {
    written = p.up_to.front;
    appended = p.up_to.written;
    split = append-nil t ∙ p.up_to.split;
  };
}

-- what holds anyway holds where a call fails
pub at_err : {A E : Type 0} {P : Type 0} (r : Result A E) → P → OnErr r P
at_err (Ok x) p = tt
at_err (Err e) p = p

-- behind the last command, or the last reply, nothing is printed
pub replies_lines_end : (cs : List CommandValue) (rs : List ReplyValue) → (cs ≡ []) ⊎ (rs ≡ []) →
    replies_lines cs rs ≡ []
replies_lines_end cs rs (inl e) = ap (λ l. replies_lines l rs) e
replies_lines_end [] rs (inr e) = refl
replies_lines_end (c ∷ cs) rs (inr e) = ap (λ l. replies_lines (c ∷ cs) l) e
