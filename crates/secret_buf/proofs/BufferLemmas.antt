-- What a write to scrubbed storage leaves.
use Rattle.std.proofs.Common.{◌≡◌, ℕ, ◌+◌, ◌-◌, ◌≤◌, List, ◌++◌, length, take, drop, replicate, slice_range, arith, refl, ap, ◌∙◌, length-append, length-take, length-drop, drop-drop, take-take, subst}
use Rattle.std.proofs.Math.ListN.{length-replicate}
use Rattle.std.proofs.lemmas.List.{take_at, take-append-drop, take-append-le, drop-append-le, drop-take}
use Rattle.std.proofs.lemmas.List.Elements.{All-append, All-drop, All-nil, All-replicate}
use Rattle.std.proofs.lemmas.Slice.{drop-append-drop}
use Rattle.secret_buf.specs.Buffers.{Buffer, buffer_of, cleared, overwritten, room_in, IsWiped, IsScrubbed}

-- the lengths of parts and of what is put together of parts
ruleset lengths = (length-append, length-take, length-drop, length-replicate)

-- wiped bytes, and wiped bytes behind them
wiped_both : (xs ys : List ℕ) → IsWiped xs → IsWiped ys → IsWiped (xs ++ ys)
wiped_both = All-append (λ byte. byte ≡ 0)

-- wiped bytes, and zeros behind them
wiped_and_zeros : (xs : List ℕ) (n : ℕ) → IsWiped xs → IsWiped (xs ++ replicate n 0)
wiped_and_zeros xs n wiped =
    wiped_both xs _ wiped (All-replicate (λ byte. byte ≡ 0) n 0 refl)

module _ (s : List ℕ) (start end : ℕ) (is : IsScrubbed s start end) where
  -- the live bytes are as many as there are from start to end
  length-live : length (slice_range s start end) ≡ end - start
  length-live = grind (arith, lengths, is.within)

  -- a number of live bytes ends within them
  pub count_fits : (count : ℕ) (buffer : Buffer) → buffer_of s start end ≡ buffer
      → count ≤ length buffer.live → start + count ≤ end
  count_fits count buffer seen few =
      omega (arith, is.ordered, length-live, ap (λ (b : Buffer). length b.live) seen)

  -- with the live bytes cleared, all bytes are zero
  pub IsWiped-cleared : IsWiped (cleared s start end)
  IsWiped-cleared = wiped_both _ _ (wiped_and_zeros _ _ is.before) is.after

  -- without live bytes all bytes are zero
  IsWiped-empty : end ≤ start → IsWiped s
  IsWiped-empty empty =
      let same : end ≡ start = omega (arith, empty, is.ordered) in
      subst IsWiped (take-append-drop start s)
      (wiped_both _ _ is.before (subst (λ n. IsWiped (drop n s)) same is.after))

  -- and it is scrubbed from its front on
  pub IsScrubbed-empty : end ≤ start → IsScrubbed s 0 (0 + (end - start))
  IsScrubbed-empty empty =
      let none : 0 + (end - start) ≡ 0 = omega (arith, empty) in
      rw none (record {
        ordered = omega arith;
        within = omega arith;
        roomy = omega arith;
        before = All-nil (λ byte. byte ≡ 0);
        after = IsWiped-empty empty;
      })

  module _ (to : ℕ) (from_start : start ≤ to) (to_end : to ≤ end) where
    length-front : length (take start s ++ replicate (to - start) 0) ≡ to
    length-front = grind (arith, lengths, is.within)

    -- what stands behind the cleared bytes stays
    drop-cleared : (m : ℕ) → to ≤ m → drop m (cleared s start to) ≡ drop m s
    drop-cleared m past = drop-append-drop to s _ m past length-front

    -- with the first live bytes cleared, storage is scrubbed without them
    pub IsScrubbed-cleared : IsScrubbed (cleared s start to) to end
    IsScrubbed-cleared =
        let same_length : length (cleared s start to) ≡ length s =
        grind (arith, lengths, is.within, length-front) in
        record {
          ordered = to_end;
          within = omega (arith, is.within, same_length);
          roomy = omega (arith, is.roomy, same_length);
          before =
              rw (take_at (take start s ++ replicate (to - start) 0) (drop to s) to length-front)
              (wiped_and_zeros _ _ is.before);
          after = rw (drop-cleared end to_end) is.after;
        }

    -- and the live bytes are the old ones without the first
    pub live-cleared : (count : ℕ) → to ≡ start + count
        → slice_range (cleared s start to) to end ≡ drop count (slice_range s start end)
    live-cleared count at =
        rw (drop-cleared to (omega arith), at, ← drop-drop count start s)
        (rw (← drop-take count (end - (start + count)) (drop start s))
        (ap (λ n. drop count (take n (drop start s))) (omega arith)))

  module _ (bytes : List ℕ) (fits : end + length bytes ≤ length s) where
    length-front_and_bytes : length (take end s ++ bytes) ≡ end + length bytes
    length-front_and_bytes = grind (arith, lengths, is.within)

    -- what stands before the live bytes stays
    take-overwritten : take start (overwritten s end bytes) ≡ take start s
    take-overwritten =
        let in_front : start ≤ length (take end s) =
        grind (arith, lengths, is.ordered, is.within) in
        let in_both : start ≤ length (take end s ++ bytes) =
        omega (arith, is.ordered, length-front_and_bytes) in
        take-append-le start (take end s ++ bytes) _ in_both
        ∙ take-append-le start (take end s) bytes in_front
        ∙ take-take start end s is.ordered

    -- with bytes written behind the live ones, storage is scrubbed with them
    pub IsScrubbed-overwritten :
        end + length bytes - start ≤ room_in (length s)
        → IsScrubbed (overwritten s end bytes) start (end + length bytes)
    IsScrubbed-overwritten room =
        let same_length : length (overwritten s end bytes) ≡ length s =
        grind (arith, lengths, fits, length-front_and_bytes) in
        record {
          ordered = omega (arith, is.ordered);
          within = omega (arith, fits, same_length);
          roomy = omega (arith, room, same_length);
          before = rw take-overwritten is.before;
          after =
              rw (drop-append-drop _ s _ (end + length bytes) (omega arith) length-front_and_bytes)
              (rw (← drop-drop (length bytes) end s)
              (All-drop (λ byte. byte ≡ 0) (length bytes) (drop end s) is.after));
        }

    -- and the live bytes are the old ones and then those
    pub live-overwritten : slice_range (overwritten s end bytes) start (end + length bytes)
        ≡ slice_range s start end ++ bytes
    live-overwritten =
        let in_front : start ≤ length (take end s) =
        grind (arith, lengths, is.ordered, is.within) in
        let in_both : start ≤ length (take end s ++ bytes) =
        omega (arith, is.ordered, length-front_and_bytes) in
        let same_front : drop start (take end s) ≡ slice_range s start end =
        ap (λ n. drop start (take n s)) (omega (arith, is.ordered))
        ∙ drop-take start (end - start) s in
        let long : length (slice_range s start end ++ bytes) ≡ end + length bytes - start =
        omega (arith, is.ordered, length-live, length-append {A = ℕ}) in
        rw (drop-append-le start (take end s ++ bytes) (drop (end + length bytes) s) in_both)
        (rw (drop-append-le start (take end s) bytes in_front, same_front)
        (take_at (slice_range s start end ++ bytes) _ (end + length bytes - start) long))
