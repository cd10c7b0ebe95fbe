mod FedLemmas
mod FeederLemmas
mod ListingLemmas
mod ReportLemmas
mod Unmissed
mod CallersLemmas
