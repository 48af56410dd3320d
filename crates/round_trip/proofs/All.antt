-- All that is claimed of a program that is printed and read again (specs/RoundTrip.antt), with the theorems. Assumes nothing.
use Rattle.round_trip.proofs.RoundTrip.{round_trip, libraries_round_trip}
use Rattle.round_trip.specs.RoundTrip.{RoundTrip, LibrariesRoundTrip}

pub of_definitions : RoundTrip
of_definitions = round_trip

pub of_libraries : LibrariesRoundTrip
of_libraries = libraries_round_trip
