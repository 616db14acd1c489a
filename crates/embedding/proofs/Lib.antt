mod Outcomes
mod SignCalls
mod ListCalls
mod Departures
mod NewSeats
