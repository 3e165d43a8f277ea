-- Some segments in, computed.
use Rattle.std.specs.Prelude.{◌≡◌, refl, true, false}
use Rattle.segments.specs.declared.Segments.{Segments}
use Rattle.segments.specs.Digits.{digit}
use Rattle.segments.specs.Model.{is_in, none_in, put_in, missing_of, first_from, first_missing, run_from, run_of, agrees}

-- segments 1, 2, 5 and 67
some : Segments
unfolding is_in digit
some = put_in (put_in (put_in (put_in none_in 1) 2) 67) 5

numbers : some ≡ record { low = 19; high = 4 }
unfolding some
numbers = refl

left : missing_of some 69 ≡ 65
unfolding some missing_of
left = refl

-- a number past 69 is of no segment, so it counts as missing
past_69 : missing_of some 100 ≡ 96
unfolding some missing_of
past_69 = refl

first : first_missing some 69 ≡ 3
unfolding some first_from
first = refl

two : run_of some 3 69 16 ≡ 2
unfolding some run_from
two = refl

most : run_of some 6 69 16 ≡ 16
unfolding some run_from
most = refl

to_the_end : run_of some 68 69 16 ≡ 2
unfolding some run_from
to_the_end = refl

checked : agrees some 69 65 ≡ true
unfolding some missing_of
checked = refl

past_the_end : agrees some 66 63 ≡ false
unfolding some missing_of
past_the_end = refl
